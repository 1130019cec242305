-- The slot patches of reclaims move entries.
use Rattle.std.proofs.Common.{◌≡◌, ℕ, zero, suc, ◌<◌, ◌∙◌, Bool, true, false, List, [], ◌∷◌, ◌++◌, length, map}
use Rattle.std.proofs.Common.{sym, arith, subst}
use Rattle.std.specs.Prelude.{slice_index_or, take, All, Ok}
use Rattle.std.proofs.lemmas.List.{append_assoc, append-nil, get_or_push, length-append}
use Rattle.std.proofs.Math.ListN.{get_or-append}
use Rattle.patch_model.specs.declared.blocks.TheConstants.{BLOCK}
use Rattle.patch_model.specs.Execution.{Execution, extended}
use Rattle.patch_frame.specs.declared.geometries.Geometry.{Geometry}
use Rattle.patch_recovery.specs.Change.{Change, Data, Point, Fill, Clear, Widen, Made, step_of}
use Rattle.patch_recovery.specs.Ledger.{Ledger, after_all}
use Rattle.patch_recovery.specs.Orders.{AreWellMade}
use Rattle.patch_recovery.specs.Reading.{reading}
use Rattle.patch_recovery.specs.Said.{Moves, AreMoves}
use Rattle.patch_recovery.specs.Store.{IsOfStore, StoresBegin, StoresGrow}
use Rattle.patch_history.specs.Closed.{is_fill}
use Rattle.patch_history.specs.StoreState.{onto}
use Rattle.patch_history.proofs.Quiet.{AllSilent, IsSilent}

-- An execution of any well made changes.

abbrev grown : List (List ℕ) → Geometry → List Made → Execution
grown blocks g [] = record { first = blocks; steps = [] }
grown blocks g (m ∷ ms) = extended (grown blocks g ms) (step_of g m)

-- each list of well made changes is some store's
abbrev pub HasStores : Ledger → Type 0
HasStores first = (ms : List Made) → AreWellMade first ms → (run : Execution) × IsOfStore run first ms

grown_store : StoresBegin → StoresGrow → (blocks : List (List ℕ)) (first : Ledger)
    → All (λ block. length block ≡ BLOCK) blocks → reading blocks ≡ Ok first → (ms : List Made) → AreWellMade first ms
    → IsOfStore (grown blocks first.geometry ms) first ms
grown_store begin grow blocks first long read [] well = begin blocks first long read
grown_store begin grow blocks first long read (m ∷ ms) well =
    grow (grown blocks first.geometry ms) first m ms (grown_store begin grow blocks first long read ms well.1) well.0

pub has_stores : StoresBegin → StoresGrow → (blocks : List (List ℕ)) (first : Ledger)
    → All (λ block. length block ≡ BLOCK) blocks → reading blocks ≡ Ok first → HasStores first
has_stores begin grow blocks first long read ms well =
    (grown blocks first.geometry ms, grown_store begin grow blocks first long read ms well)

-- Which changes of a plan move entries.

-- each that passes does
abbrev pub AllMoved : (Made → Bool) → Ledger → (made plan : List Made) → Type 0
AllMoved marks first made [] = Unit {0}
AllMoved marks first made (m ∷ plan) =
    (marks m ≡ true → Moves (after_all first made) m.change) × AllMoved marks first (m ∷ made) plan

pub moved_append : (marks : Made → Bool) (first : Ledger) (p q made : List Made) → AllMoved marks first made p
    → AllMoved marks first (onto p made) q → AllMoved marks first made (p ++ q)
moved_append marks first [] q made h k = k
moved_append marks first (m ∷ p) q made h k = (h.0, moved_append marks first p q (m ∷ made) h.1 k)

pub moved_take : (marks : Made → Bool) (first : Ledger) (k : ℕ) (plan made : List Made) → AllMoved marks first made plan
    → AllMoved marks first made (take k plan)
moved_take marks first zero plan made h = tt
moved_take marks first (suc k) [] made h = tt
moved_take marks first (suc k) (m ∷ plan) made h = (h.0, moved_take marks first k plan (m ∷ made) h.1)

-- where none passes
pub moved_none : (marks : Made → Bool) (first : Ledger) → ((m : Made) → marks m ≡ false) → (plan made : List Made)
    → AllMoved marks first made plan
moved_none marks first none [] made = tt
moved_none marks first none (m ∷ plan) made =
    ((λ t. let no : false ≡ true = sym (none m) ∙ t in absurd cc), moved_none marks first none plan (m ∷ made))

-- bytes and pointers fill no slot
abbrev pub fills : Made → Bool
fills m = is_fill m.change

fills_none : (c : Change) → IsSilent c → is_fill c ≡ true → ⊥
fills_none (Data extent offset bytes) h t = let no : false ≡ true = t in cc
fills_none (Point extent generation offset) h t = let no : false ≡ true = t in cc
fills_none (Fill slot s) h t = h
fills_none (Clear slot) h t = h
fills_none Widen h t = h

pub silent_moved : (first : Ledger) (plan made : List Made) → AllSilent plan → AllMoved fills first made plan
silent_moved first [] made h = tt
silent_moved first (m ∷ plan) made h =
    ((λ t. absurd (fills_none m.change h.0 t)), silent_moved first plan (m ∷ made) h.1)

-- Marks by number.

abbrev pub marked : List Bool → ℕ → Bool
marked marks number = slice_index_or marks number false

marked_alike : (p q : ℕ → Bool) (first : Ledger) (ms : List Made) → ((n : ℕ) → n < length ms → p n ≡ q n)
    → AreMoves p first ms → AreMoves q first ms
marked_alike p q first [] same are = tt
marked_alike p q first (m ∷ ms) same are = (
  (λ t. are.0 (same (length ms) (omega arith) ∙ t)),
  marked_alike p q first ms (λ n less. same n (omega (arith, less))) are.1,
)

marked_more : (first : Ledger) (marks : List Bool) (b : Bool) (ms : List Made) (m : Made) → length marks ≡ length ms
    → AreMoves (marked marks) first ms → (b ≡ true → Moves (after_all first ms) m.change)
    → AreMoves (marked (marks ++ b ∷ [])) first (m ∷ ms)
marked_more first marks b ms m count are one = (
  (λ t. one (sym (get_or_push marks b false (length ms) count) ∙ t)),
  marked_alike (marked marks) (marked (marks ++ b ∷ [])) first ms
      (λ n less. sym (get_or-append marks (b ∷ []) false n (omega (arith, less, count)))) are,
)

-- the marks of a plan behind those before it
pub marked_plan : (test : Made → Bool) (first : Ledger) (plan made : List Made) (marks : List Bool)
    → length marks ≡ length made → AreMoves (marked marks) first made → AllMoved test first made plan
    → AreMoves (marked (marks ++ map test plan)) first (onto plan made)
marked_plan test first [] made marks count are moved =
    subst (λ ms. AreMoves (marked ms) first made) (sym (append-nil marks)) are
marked_plan test first (m ∷ plan) made marks count are moved =
    let longer : length (marks ++ test m ∷ []) ≡ length (m ∷ made) =
    (let long = length-append marks (test m ∷ []) in omega (arith, long, count)) in
    subst (λ ms. AreMoves (marked ms) first (onto plan (m ∷ made))) (append_assoc marks (test m ∷ []) (map test plan))
    (marked_plan test first plan (m ∷ made) (marks ++ test m ∷ []) longer
    (marked_more first marks (test m) made m count are moved.0) moved.1)
