-- A step that changes one block and the graph, and no write under way.
use Rattle.std.proofs.Common.{◌≡◌, ◌≢◌, Fits, w32, w64, ℕ, ◌+◌, ◌-◌, ◌^◌, min, ◌<◌, ◌≤◌, ◌∙◌, true, false, List, [], Option, Some, None, Result, Ok, Err, inl, inr, length, get_or, set, refl, sym, ap, subst, arith}
use Rattle.std.specs.Prelude.{Bool, count_by, is_some, map, slice_set}
use Rattle.std.specs.Result.{OnErr}
use Rattle.std.proofs.lemmas.Bool.{cases_eq}
use Rattle.std.proofs.lemmas.List.{length-map, get_or-set_same, get_or-set_other}
use Rattle.std.proofs.lemmas.List.Sums.{count_by-le-length}
use Rattle.std.proofs.Math.ListN.{length-set}
use Rattle.patch_model.specs.declared.limits.TheConstants.{MAX_PATCHES}
use Rattle.patch_model.specs.Entry.{is_live}
use Rattle.patch_model.specs.Step.{Step}
use Rattle.patch_model.specs.Execution.{Execution, extended}
use Rattle.patch_model.specs.State.{entries_of, state_of, flying_of, numbers_of}
use Rattle.patch_model.specs.History.{history_of}
use Rattle.patch_model.specs.Legal.{IsLegal}
use Rattle.patch_stacks.specs.State.{Block}
use Rattle.patch_view.specs.Meaning.{IsBlockOf}
use Rattle.patch_graph.specs.State.{Graph}
use Rattle.patch_graph.specs.Meaning.{IsGraphOf}
use Rattle.patch_cache.specs.Contents.{Contents, Resident, Write, block_or_none, is_resident, state_in}
use Rattle.patch_cache.specs.Meaning.{IsCacheBy, IsWriteOf}
use Rattle.patch_cache.proofs.Residency.{apart, clean_stays, resident_within, still_resident}

-- the step lets the writes be, and the blocks but for one
pub record StepsOn (run : Execution) (step : Step) (block : ℕ) : Type 0 where
  pub legal : IsLegal (extended run step)
  pub flights : (state_of (extended run step)).flights ≡ (state_of run).flights
  pub sends : (state_of (extended run step)).sends ≡ (state_of run).sends
  pub flying : (b : ℕ) → numbers_of (flying_of (entries_of (extended run step)) b) ≡ numbers_of (flying_of (entries_of run) b)
  pub elsewhere : (b : ℕ) → b ≢ block → history_of (extended run step) b ≡ history_of run b

write_stays : (run next : Execution) (b : ℕ) (write : Option Write) → (state_of next).flights ≡ (state_of run).flights
    → numbers_of (flying_of (entries_of next) b) ≡ numbers_of (flying_of (entries_of run) b) → IsWriteOf run b write → IsWriteOf next b write
write_stays run next b None same numbers is = rw same is
write_stays run next b (Some write) same numbers is = (rw same is.0, is.1 ∙ sym numbers)

pub block_stays : (blocks : List (Option Block)) (block : ℕ) (state : Block) (run next : Execution) (b : ℕ) → block < length blocks → ((other : ℕ) → other ≢ block → history_of next other ≡ history_of run other)
    → IsBlockOf state [] (history_of next block) → (b ≢ block → IsBlockOf (block_or_none (get_or blocks b None)) [] (history_of run b))
    → IsBlockOf (block_or_none (get_or (set blocks block (Some state)) b None)) [] (history_of next b)
block_stays blocks block state run next b h elsewhere here was = elim (cases_eq b block) [
  | inl is ↦
      let there : get_or (set blocks block (Some state)) block None ≡ Some state = get_or-set_same blocks block (Some state) None h in
      subst (λ (n : ℕ). IsBlockOf (block_or_none (get_or (set blocks block (Some state)) n None)) [] (history_of next n)) (sym is)
      (subst (λ x. IsBlockOf (block_or_none x) [] (history_of next block)) (sym there) here)
  | inr not ↦
      let there : get_or (set blocks block (Some state)) b None ≡ get_or blocks b None = get_or-set_other blocks block b (Some state) None not in
      subst (λ x. IsBlockOf (block_or_none x) [] (history_of next b)) (sym there)
      (subst (λ x. IsBlockOf (block_or_none (get_or blocks b None)) [] x) (sym (elsewhere b not)) (was not))
]

-- the cache after it
pub stepped : (whole : Bool) (c : Contents) (run : Execution) (step : Step) (block : ℕ) (state : Block) (graph : Graph) (live : ℕ) (trace : List Step) → IsCacheBy whole c run → StepsOn run step block
    → is_resident c block ≡ true → IsBlockOf state [] (history_of (extended run step) block) → IsGraphOf graph (entries_of (extended run step)) → live ≡ count_by is_live (entries_of (extended run step))
    → IsCacheBy whole (record { blocks = slice_set c.blocks block (Some state); writes = c.writes; graph = graph; sends = c.sends; live = live; trace = trace }) (extended run step)
stepped whole c run step block state graph live trace was on is here holds counted = record {
  legal = on.legal;
  count = length-set c.blocks block (Some state) ∙ was.count;
  blocks = λ b k.
      block_stays c.blocks block state run (extended run step) b (resident_within c block is) on.elsewhere here
      (λ not. was.blocks b (sym (still_resident c.blocks block b state is) ∙ k));
  absent = λ b less not.
      let was_not : is_resident c b ≡ false = sym (still_resident c.blocks block b state is) ∙ not in
      clean_stays run (extended run step) b (on.elsewhere b (apart c block b is was_not)) (was.absent b less was_not);
  resident = λ all b less. still_resident c.blocks block b state is ∙ was.resident all b less;
  writes = λ b k. write_stays run (extended run step) b (get_or c.writes b None) on.flights (on.flying b) (was.writes b k);
  graph = holds;
  sends = was.sends ∙ sym on.sends;
  live = counted;
}

-- the state of a resident block, as its row holds it
pub lent : (whole : Bool) (c : Contents) (block : ℕ) (state : Block) (run : Execution) → get_or c.blocks block None ≡ Some state → IsCacheBy whole c run
    → IsBlockOf state [] (history_of run block)
lent whole c block state run here was =
    subst (λ x. IsBlockOf (block_or_none x) [] (history_of run block)) here (was.blocks block (ap is_some here))

-- and with the graph and the trace as they were, all is as it was
pub unchanged : (c : Contents) (blocks : List (Option Block)) (writes : List (Option Write)) (graph : Graph) (trace : List Step) → blocks ≡ c.blocks → writes ≡ c.writes → graph ≡ c.graph → trace ≡ c.trace
    → record c { blocks = blocks; writes = writes; graph = graph; trace = trace } ≡ c
unchanged c blocks writes graph trace a w b d = rw (a, w, b, d) refl

pub on_err : {T E P : Type 0} → (r : Result T E) → P → OnErr r P
on_err (Ok x) p = tt
on_err (Err x) p = p

-- a step that was noted leaves the trace room for each write under way
pub noted_fits : (more had long under before after : ℕ) → long ≡ had → more ≡ had + 1 → long + (under + 1) ≤ before → after ≡ before → more + under ≤ after
noted_fits more had long under before after is one room same = omega arith

-- a number that isn't below the count of rows is that of no block
pub past_all : (whole : Bool) (c now : Contents) (run : Execution) (rows : List (Option Resident)) (block found : ℕ) → c ≡ now → c.blocks ≡ map state_in rows → IsCacheBy whole now run → found ≡ length rows → found ≤ block
    → length run.first ≤ block
past_all whole c now run rows block found same blocks at read past =
    let many = ap length blocks ∙ length-map rows state_in in
    let count = at.count in
    let view = ap (λ (v : Contents). length v.blocks) same in omega arith

pub below_count : (whole : Bool) (c now : Contents) (run : Execution) (rows : List (Option Resident)) (block found : ℕ) → c ≡ now → c.blocks ≡ map state_in rows → IsCacheBy whole now run → found ≡ length rows → block < found
    → block < length run.first
below_count whole c now run rows block found same blocks at read below =
    let many = ap length blocks ∙ length-map rows state_in in
    let count = at.count in
    let view = ap (λ (v : Contents). length v.blocks) same in omega arith

-- one patch more may live
pub one_lives : (live now_live : ℕ) → live ≡ now_live → now_live < 65536 → Fits w32 (live + 1)
one_lives live now_live same few = omega arith

-- room that was reserved for a step and for each write under way
pub room_left : (long under most : ℕ) → long + (under + 1) ≤ most → long < most
room_left long under most room = omega arith

pub more_room_left : (long under most : ℕ) → long + (under + 2) ≤ most → long < most
more_room_left long under most room = omega arith

-- a trace that has more room than before has enough
pub still_fits : (had now under before after : ℕ) → now ≡ had → before ≤ after → had + under ≤ before → now + under ≤ after
still_fits had now under before after same more room = omega arith

-- a step that begins a write leaves the trace room for its end too
pub begun_fits : (more had long under before after : ℕ) → long ≡ had → more ≡ had + 1 → long + (under + 2) ≤ before → after ≡ before → more + (under + 1) ≤ after
begun_fits more had long under before after is one room same = omega arith

-- one write more was begun: their count stays below its greatest
pub next_sends : (counted sends before after : ℕ) → counted ≡ min (sends + 1) (2 ^ 32 - 1) → after ≡ before + 1 → sends ≡ before → before ≤ MAX_PATCHES → counted ≡ after
next_sends counted sends before after is one same few = omega arith

-- no more writes are under way than there are blocks
pub few_fit : {X : Type 0} (writes : List (Option X)) (under blocks : ℕ) → under ≡ count_by is_some writes → length writes ≡ blocks → blocks ≤ 16777216 → Fits w64 (under + 1)
few_fit writes under blocks count as_many few = let most = count_by-le-length is_some writes in omega (arith, most)

pub few_more_fit : {X : Type 0} (writes : List (Option X)) (under blocks : ℕ) → under ≡ count_by is_some writes → length writes ≡ blocks → blocks ≤ 16777216 → Fits w64 (under + 2)
few_more_fit writes under blocks count as_many few = let most = count_by-le-length is_some writes in omega (arith, most)

-- an empty trace has room for as many as it was made for
pub empty_fits : (had under most : ℕ) → had ≡ 0 → under ≤ most → had + under ≤ most
empty_fits had under most none room = omega arith

pub one_left : (long most : ℕ) → long + 1 ≤ most → long < most
one_left long most room = omega arith
