-- What is ready of a list in the order of its numbers is in that order too, and is the only such set.
use Rattle.std.proofs.Common.{◌≡◌, ℕ, zero, suc, ◌+◌, ◌<◌, ◌≤◌, Bool, List, [], ◌∷◌, length, arith}
use Rattle.std.specs.List.{filter}
use Rattle.patch_model.specs.Execution.{Execution}
use Rattle.patch_model.specs.Entry.{Entry, in_memory_of}
use Rattle.patch_model.specs.Entries.{all-from_In, rising-apart, rising-filter, rising_same}
use Rattle.patch_model.specs.Ready.{struck, may_stay, ready, IsLargestWritable, IsRising, ReadyIsOnly}
use Rattle.patch_model.specs.State.{entries_of}
use Rattle.patch_model.specs.Member.{In-from_Contains, Contains-from_In}
use Rattle.patch_model.proofs.Numbering.{Numbered, Numbered-run, Numbered-above}
use Rattle.patch_model.proofs.Striking.{ready-largest}

pub rising-from_Numbered : (n : ℕ) (es : List Entry) → Numbered n es → IsRising es
rising-from_Numbered n [] h = tt
rising-from_Numbered n (x ∷ xs) h = (
  all-from_In (λ f. x.patch.no < f.patch.no) xs (λ f i. let above : n + 1 ≤ f.patch.no = Numbered-above (n + 1) xs h.1 f i in let at : x.patch.no ≡ n = h.0 in omega arith),
  rising-from_Numbered (n + 1) xs h.1,
)

pub rising-run : (run : Execution) → IsRising (entries_of run)
rising-run run = rising-from_Numbered 0 (entries_of run) (Numbered-run run)

rising-struck : (n : ℕ) (stays : List Entry → Entry → Bool) (es : List Entry) → IsRising es → IsRising (struck n stays es)
rising-struck zero stays es h = h
rising-struck (suc n) stays es h = rising-struck n stays (filter (stays es) es) (rising-filter (stays es) es h)

pub ready_rises : (all : List Entry) (block : ℕ) → IsRising all → IsRising (ready all block)
ready_rises all block h = rising-struck (length all) (may_stay all) (filter (in_memory_of block) all) (rising-filter (in_memory_of block) all h)

pub rising-ready : (run : Execution) (block : ℕ) → IsRising (ready (entries_of run) block)
rising-ready run block = ready_rises (entries_of run) block (rising-run run)

pub ready_is_largest : (all : List Entry) (block : ℕ) → IsRising all → IsLargestWritable all block (ready all block)
ready_is_largest all block h = ready-largest all block (rising-apart all h)

pub ready_is_only : ReadyIsOnly
ready_is_only all block set rising l h =
    let r = ready_is_largest all block rising in
    rising_same set (ready all block) h (ready_rises all block rising)
    (λ e i. In-from_Contains _ e (r.largest set l.writable e (Contains-from_In _ e i)))
    (λ e i. In-from_Contains _ e (l.largest (ready all block) r.writable e (Contains-from_In _ e i)))
