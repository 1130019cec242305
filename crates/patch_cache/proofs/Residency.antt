-- Which blocks of a cache are resident, and what their rows hold.
use Rattle.std.proofs.Common.{◌≡◌, ◌≢◌, ℕ, zero, suc, ◌<◌, ◌≤◌, ◌∙◌, inl, inr, true, false, List, [], ◌∷◌, Option, Some, None, length, length-set, map, refl, sym, ap, subst, arith}
use Rattle.std.specs.Prelude.{IsTrue, count_by, is_some, slice_index_or, slice_set}
use Rattle.std.specs.List.{list_all}
use Rattle.std.proofs.lemmas.Bool.{cases_eq, both_ways}
use Rattle.std.proofs.lemmas.List.{get_or-set_same, get_or-set_other, length-map}
use Rattle.patch_model.specs.Entry.{is_durable}
use Rattle.patch_model.specs.Execution.{Execution}
use Rattle.patch_model.specs.History.{history_of}
use Rattle.patch_model.specs.Renewed.{is_clean}
use Rattle.patch_stacks.specs.State.{Block}
use Rattle.patch_model.specs.Step.{Step}
use Rattle.patch_graph.specs.State.{Graph}
use Rattle.patch_cache.specs.Contents.{Contents, Resident, Write, state_in, write_in, block_or_none, block_at, is_resident, with_block}

-- what stands at a place of a row's parts
pub state_at : (rows : List (Option Resident)) (n : ℕ) → slice_index_or (map state_in rows) n None ≡ state_in (slice_index_or rows n None)
state_at [] n = refl
state_at (r ∷ rs) zero = refl
state_at (r ∷ rs) (suc n) = state_at rs n

pub write_at : (rows : List (Option Resident)) (n : ℕ) → slice_index_or (map write_in rows) n None ≡ write_in (slice_index_or rows n None)
write_at [] n = refl
write_at (r ∷ rs) zero = refl
write_at (r ∷ rs) (suc n) = write_at rs n

pub map_set : {X Y : Type 0} (f : X → Y) (xs : List X) (n : ℕ) (x : X) → map f (slice_set xs n x) ≡ slice_set (map f xs) n (f x)
map_set f [] n x = refl
map_set f (y ∷ ys) zero x = refl
map_set f (y ∷ ys) (suc n) x = ap (λ zs. f y ∷ zs) (map_set f ys n x)

-- what stands at a place, set there again, changes nothing
pub set_again : {X : Type 0} (xs : List X) (n : ℕ) (none x : X) → slice_index_or xs n none ≡ x → slice_set xs n x ≡ xs
set_again [] n none x at = refl
set_again (y ∷ ys) zero none x at = ap (λ z. z ∷ ys) (sym at)
set_again (y ∷ ys) (suc n) none x at = ap (λ zs. y ∷ zs) (set_again ys n none x at)

some_is : {X : Type 0} (o : Option X) (x : X) → o ≡ Some x → is_some o ≡ true
some_is o x is = ap is_some is

-- beyond all places stands nothing
pub inside : {X : Type 0} (xs : List (Option X)) (n : ℕ) → is_some (slice_index_or xs n None) ≡ true → n < length xs
inside [] n some = absurd (cc)
inside (x ∷ xs) zero some = omega arith
inside (x ∷ xs) (suc n) some = let m = inside xs n some in omega (arith, m)

pub resident_within : (c : Contents) (block : ℕ) → is_resident c block ≡ true → block < length c.blocks
resident_within c block is = inside c.blocks block is

-- a block in another state stays resident, and each other block what it was
pub still_resident : (blocks : List (Option Block)) (block n : ℕ) (b : Block) → is_some (slice_index_or blocks block None) ≡ true
    → is_some (slice_index_or (slice_set blocks block (Some b)) n None) ≡ is_some (slice_index_or blocks n None)
still_resident blocks block n b is = elim (cases_eq n block) [
  | inl same ↦
      let here : slice_index_or (slice_set blocks block (Some b)) block None ≡ Some b = get_or-set_same blocks block (Some b) None (inside blocks block is) in
      subst (λ (k : ℕ). is_some (slice_index_or (slice_set blocks block (Some b)) k None) ≡ is_some (slice_index_or blocks k None)) (sym same) (ap is_some here ∙ sym is)
  | inr not ↦ ap is_some (get_or-set_other blocks block n (Some b) None not)
]

-- so one that isn't is another one
pub apart : (c : Contents) (block other : ℕ) → is_resident c block ≡ true → is_resident c other ≡ false → other ≢ block
apart c block other is not same = both_ways _ (sym (ap (is_resident c) same) ∙ not) is

-- of a block whose history stays no patch becomes live
pub clean_stays : (run next : Execution) (b : ℕ) → history_of next b ≡ history_of run b → IsTrue (is_clean run b) → IsTrue (is_clean next b)
clean_stays run next b same clean = ap (λ h. list_all is_durable h.entries) same ∙ clean

-- The row of a block in another state.

abbrev pub with_state : Resident → Block → Resident
with_state row b = record row { state = b }

pub states_with : (rows : List (Option Resident)) (n : ℕ) (row : Resident) (b : Block) → map state_in (slice_set rows n (Some (with_state row b))) ≡ slice_set (map state_in rows) n (Some b)
states_with rows n row b = map_set state_in rows n (Some (with_state row b))

pub writes_with : (rows : List (Option Resident)) (n : ℕ) (row : Resident) (b : Block) → slice_index_or rows n None ≡ Some row
    → map write_in (slice_set rows n (Some (with_state row b))) ≡ map write_in rows
writes_with rows n row b at =
    map_set write_in rows n (Some (with_state row b)) ∙ set_again (map write_in rows) n None row.write (write_at rows n ∙ ap write_in at)

-- what a resident block's row holds is the cache's
pub block_of_row : (rows : List (Option Resident)) (n : ℕ) (row : Resident) → slice_index_or rows n None ≡ Some row → slice_index_or (map state_in rows) n None ≡ Some row.state
block_of_row rows n row at = state_at rows n ∙ ap state_in at

pub write_of_row : (rows : List (Option Resident)) (n : ℕ) (row : Resident) → slice_index_or rows n None ≡ Some row → slice_index_or (map write_in rows) n None ≡ row.write
write_of_row rows n row at = write_at rows n ∙ ap write_in at

is_some_state : (o : Option Resident) → is_some (state_in o) ≡ is_some o
is_some_state None = refl
is_some_state (Some row) = refl

pub some_of_row : (rows : List (Option Resident)) (n : ℕ) → is_some (slice_index_or (map state_in rows) n None) ≡ is_some (slice_index_or rows n None)
some_of_row rows n = ap is_some (state_at rows n) ∙ is_some_state (slice_index_or rows n None)

some_or_none : (o : Option Block) → is_some o ≡ true → o ≡ Some (block_or_none o)
some_or_none None is = absurd (cc)
some_or_none (Some b) is = refl

pub some_block : (c : Contents) (block : ℕ) → is_resident c block ≡ true → slice_index_or c.blocks block None ≡ Some (block_at c block)
some_block c block is = some_or_none (slice_index_or c.blocks block None) is

-- a row by the number of its block
pub at_block : (rows : List (Option Resident)) (place block : ℕ) (row : Resident) → place ≡ block → slice_index_or rows place None ≡ Some row → slice_index_or rows block None ≡ Some row
at_block rows place block row is at = subst (λ (n : ℕ). slice_index_or rows n None ≡ Some row) is at

-- The cache once a block's row holds another state.

abbrev pub contents_of : List (Option Resident) → Graph → (sends live : ℕ) → List Step → Contents
contents_of rows graph sends live trace = record { blocks = map state_in rows; writes = map write_in rows; graph = graph; sends = sends; live = live; trace = trace }

pub changed : (rows : List (Option Resident)) (graph : Graph) (sends live : ℕ) (trace : List Step) (place block : ℕ) (row : Resident) (after : Block) → place ≡ block → slice_index_or rows place None ≡ Some row
    → contents_of (slice_set rows place (Some (with_state row after))) graph sends live trace ≡ with_block (contents_of rows graph sends live trace) block after
changed rows graph sends live trace place block row after is at =
    let states : map state_in (slice_set rows place (Some (with_state row after))) ≡ slice_set (map state_in rows) block (Some after) =
    states_with rows place row after ∙ ap (λ (n : ℕ). slice_set (map state_in rows) n (Some after)) is in
    let writes : map write_in (slice_set rows place (Some (with_state row after))) ≡ map write_in rows = writes_with rows place row after at in
    rw (states, writes) refl

-- a resident block has its row
pub row_stands : (now : Contents) (rows : List (Option Resident)) (graph : Graph) (sends live : ℕ) (trace : List Step) (place block : ℕ) → contents_of rows graph sends live trace ≡ now → place ≡ block
    → is_resident now block ≡ true → is_some (slice_index_or rows place None) ≡ true
row_stands now rows graph sends live trace place block same is there =
    sym (some_of_row rows place) ∙ ap (λ (n : ℕ). is_some (slice_index_or (map state_in rows) n None)) is ∙ ap (λ v. is_resident v block) same ∙ there

-- as many rows, and as many writes under way, as before
pub still_sound : (rows : List (Option Resident)) (place under : ℕ) (row : Resident) (after : Block) → slice_index_or rows place None ≡ Some row → length rows ≤ 16777216 → under ≡ count_by is_some (map write_in rows)
    → (length (slice_set rows place (Some (with_state row after))) ≤ 16777216) × (under ≡ count_by is_some (map write_in (slice_set rows place (Some (with_state row after)))))
still_sound rows place under row after at few counted = (
  (let long = length-set rows place (Some (with_state row after)) in omega (arith, long, few)),
  counted ∙ ap (λ (ws : List (Option Write)). count_by is_some ws) (sym (writes_with rows place row after at)),
)

-- The cache once a block's row is another one.

pub both_changed : (rows : List (Option Resident)) (graph : Graph) (sends live : ℕ) (trace : List Step) (place block : ℕ) (row : Resident) → place ≡ block
    → contents_of (slice_set rows place (Some row)) graph sends live trace
    ≡ record { blocks = slice_set (map state_in rows) block (Some row.state); writes = slice_set (map write_in rows) block row.write; graph = graph; sends = sends; live = live; trace = trace }
both_changed rows graph sends live trace place block row is =
    let states : map state_in (slice_set rows place (Some row)) ≡ slice_set (map state_in rows) block (Some row.state) =
    map_set state_in rows place (Some row) ∙ ap (λ (n : ℕ). slice_set (map state_in rows) n (Some row.state)) is in
    let writes : map write_in (slice_set rows place (Some row)) ≡ slice_set (map write_in rows) block row.write =
    map_set write_in rows place (Some row) ∙ ap (λ (n : ℕ). slice_set (map write_in rows) n row.write) is in
    rw (states, writes) refl

-- there are as many writes as blocks
pub as_many : (rows : List (Option Resident)) → length (map write_in rows) ≡ length (map state_in rows)
as_many rows = length-map rows write_in ∙ sym (length-map rows state_in)

pub places_kept : (rows : List (Option Resident)) (place : ℕ) (row : Option Resident) → length rows ≤ 16777216 → length (slice_set rows place row) ≤ 16777216
places_kept rows place row few = let long = length-set rows place row in omega (arith, long, few)

pub writes_set : (rows : List (Option Resident)) (place : ℕ) (row : Resident) → count_by is_some (map write_in (slice_set rows place (Some row))) ≡ count_by is_some (slice_set (map write_in rows) place row.write)
writes_set rows place row = ap (λ (ws : List (Option Write)). count_by is_some ws) (map_set write_in rows place (Some row))

pub row_inside : (rows : List (Option Resident)) (place : ℕ) (row : Resident) → slice_index_or rows place None ≡ Some row → place < length rows
row_inside rows place row at = inside rows place (ap is_some at)

-- a block of a row is resident
pub resident_row : (rows : List (Option Resident)) (n : ℕ) (row : Resident) → slice_index_or rows n None ≡ Some row → is_some (slice_index_or (map state_in rows) n None) ≡ true
resident_row rows n row at = ap is_some (block_of_row rows n row at)

-- and a block whose row stands is resident
pub is_there : (now : Contents) (rows : List (Option Resident)) (graph : Graph) (sends live : ℕ) (trace : List Step) (place block : ℕ) → contents_of rows graph sends live trace ≡ now → place ≡ block
    → is_some (slice_index_or rows place None) ≡ true → is_resident now block ≡ true
is_there now rows graph sends live trace place block same is there =
    ap (λ v. is_resident v block) (sym same) ∙ ap (λ (n : ℕ). is_some (slice_index_or (map state_in rows) n None)) (sym is) ∙ some_of_row rows place ∙ there

pub not_there : (now : Contents) (rows : List (Option Resident)) (graph : Graph) (sends live : ℕ) (trace : List Step) (place block : ℕ) → contents_of rows graph sends live trace ≡ now → place ≡ block
    → is_some (slice_index_or rows place None) ≡ false → is_resident now block ≡ false
not_there now rows graph sends live trace place block same is absent =
    ap (λ v. is_resident v block) (sym same) ∙ ap (λ (n : ℕ). is_some (slice_index_or (map state_in rows) n None)) (sym is) ∙ some_of_row rows place ∙ absent
