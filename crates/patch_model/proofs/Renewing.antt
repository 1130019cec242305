-- Executions that begin anew, and blocks of which no patch is live.
use Rattle.std.proofs.Common.{◌≡◌, ℕ, ◌<◌, ◌≤◌, ◌∙◌, inl, inr, Bool, true, List, [], ◌∷◌, length, map, filter, refl, ap, arith}
use Rattle.std.specs.Prelude.{◌==◌, not, IsTrue, slice_index_or}
use Rattle.std.specs.List.{list_all, range_with_len}
use Rattle.std.proofs.lemmas.Bool.{and_parts}
use Rattle.std.proofs.lemmas.List.Elements.{All-from_get_or}
use Rattle.std.proofs.lemmas.List.FromFn.{get_or-map-range_with_len, length-map-range_with_len}
use Rattle.patch_model.specs.declared.blocks.TheConstants.{BLOCK}
use Rattle.patch_model.specs.declared.patches.Mark.{Mark}
use Rattle.patch_model.specs.declared.patches.Mark.TheVariants.{Memory, Flight, Durable}
use Rattle.patch_model.specs.Execution.{Execution}
use Rattle.patch_model.specs.Pile.{end, lay, pile}
use Rattle.patch_model.specs.Entry.{Entry, is_among, is_durable, is_memory, marks_durable, marks_memory}
use Rattle.patch_model.specs.State.{entries_of}
use Rattle.patch_model.specs.History.{History, history_of, of_block, cached, image, pile_of}
use Rattle.patch_model.specs.Legal.{IsLegal}
use Rattle.patch_model.specs.Crash.{MayLeave, crash_set}
use Rattle.patch_model.specs.Renewed.{AreAllClean, cached_blocks, is_clean, renewed}
use Rattle.patch_model.specs.Laying.{length-lay}
use Rattle.patch_model.specs.Member.{In, filter-In, Contains-from_In}
use Rattle.patch_model.proofs.Orders.{orderly_run}

-- patches that fit leave the length
pile_long : (es : List Entry) (b : List ℕ) → length b ≡ BLOCK → ((e : Entry) → In es e → end e.patch ≤ BLOCK) → length (pile b (map (λ e. e.patch) es)) ≡ BLOCK
pile_long [] b long fits = long
pile_long (e ∷ es) b long fits =
    let low = fits e (inl refl) in
    pile_long es (lay b e.patch) (length-lay b e.patch (omega arith) ∙ long) (λ f i. fits f (inr i))

block_long : (run : Execution) (b : ℕ) → IsLegal run → b < length run.first → length (cached (history_of run b)) ≡ BLOCK
block_long run b legal less =
    pile_long (filter (λ e. not (is_among [] e.class)) (of_block b (entries_of run))) (slice_index_or run.first b [])
    (legal.blocks b [] less)
    (λ e i.
    let here = (filter-In (λ e. not (is_among [] e.class)) (of_block b (entries_of run)) e i).0 in
    let all = (filter-In (λ e. e.patch.block == b) (entries_of run) e here).0 in
    (orderly_run run legal).fits e (Contains-from_In (entries_of run) e all))

pub as_many : (run : Execution) → length (cached_blocks run) ≡ length run.first
as_many run = length-map-range_with_len (λ block. cached (history_of run block)) 0 (length run.first)

-- a cached block, at its place
pub block_at : (run : Execution) (b : ℕ) → b < length run.first → slice_index_or (cached_blocks run) b [] ≡ cached (history_of run b)
block_at run b less = get_or-map-range_with_len (λ block. cached (history_of run block)) 0 (length run.first) b b [] less (omega arith)

pub legal_anew : (run : Execution) → IsLegal run → IsLegal (renewed run)
legal_anew run legal =
    let count = as_many run in
    let some = legal.some in
    let few = legal.few in
    record {
      some = omega arith;
      few = omega arith;
      blocks = All-from_get_or (λ block. length block ≡ BLOCK) (cached_blocks run) [] (λ i less.
          let inside : i < length run.first = omega arith in
          ap length (block_at run i inside) ∙ block_long run i legal inside);
      steps = tt;
    }

-- of durable patches each passes, where those that are durable do
all_pass : (keeps : Entry → Bool) (es : List Entry) → ((e : Entry) → is_durable e ≡ true → keeps e ≡ true) → list_all is_durable es ≡ true → filter keeps es ≡ es
all_pass keeps [] passes all = refl
all_pass keeps (e ∷ es) passes all =
    let parts = and_parts (is_durable e) (list_all is_durable es) all in
    let here : keeps e ≡ true = passes e parts.0 in
    rw here (ap (λ xs. e ∷ xs) (all_pass keeps es passes parts.1))

durable_stays : (m : Mark) → marks_durable m ≡ true → not (marks_memory m) ≡ true
durable_stays Memory is = absurd (cc)
durable_stays Flight is = absurd (cc)
durable_stays Durable is = refl

all_alike : (a b : Entry → Bool) (h : History) → ((e : Entry) → is_durable e ≡ true → a e ≡ true) → ((e : Entry) → is_durable e ≡ true → b e ≡ true)
    → list_all is_durable h.entries ≡ true → pile_of h a ≡ pile_of h b
all_alike a b h of_a of_b all = rw (all_pass a h.entries of_a all, all_pass b h.entries of_b all) refl

none_left_out : (e : Entry) → is_durable e ≡ true → not (is_among [] e.class) ≡ true
none_left_out e is = refl

pub image_is : (run : Execution) (block : ℕ) → IsTrue (is_clean run block) → image (history_of run block) ≡ cached (history_of run block)
image_is run block clean =
    all_alike (λ e. not (is_memory e)) (λ e. not (is_among [] e.class)) (history_of run block) (λ e is. durable_stays e.mark is) none_left_out clean

in_crash : (landed : List ℕ) (e : Entry) → is_durable e ≡ true → crash_set landed e ≡ true
in_crash landed e is = rw is refl

map_alike : (f g : ℕ → List ℕ) (ns : List ℕ) → ((n : ℕ) → f n ≡ g n) → map f ns ≡ map g ns
map_alike f g [] same = refl
map_alike f g (n ∷ ns) same = rw (same n, map_alike f g ns same) refl

pub crash_is : (run : Execution) (disk : List (List ℕ)) → AreAllClean run → MayLeave run disk → disk ≡ cached_blocks run
crash_is run disk clean crash =
    crash.disk_is ∙ map_alike (λ block. pile_of (history_of run block) (crash_set crash.landed)) (λ block. cached (history_of run block)) (range_with_len 0 (length run.first))
    (λ block. all_alike (crash_set crash.landed) (λ e. not (is_among [] e.class)) (history_of run block) (in_crash crash.landed) none_left_out (clean block))
