-- A cached block has its whole length, and so has a span of it.
use Rattle.std.proofs.Common.{◌≡◌, ◌∙◌, ℕ, ◌+◌, ◌-◌, ◌≤◌, ◌<◌, inl, inr, not, List, [], ◌∷◌, length, map, refl, ap, arith, drop}
use Rattle.std.specs.Prelude.{filter, slice_range, nat_le, nat_lt, None, Some, true, false, Bool, if◌then◌else◌}
use Rattle.std.proofs.Math.Seq.{drop-length}
use Rattle.std.proofs.lemmas.List.{append-nil, length-drop, length-take-le}
use Rattle.std.proofs.lemmas.Bool.Decides.{nat_tests}
use Rattle.patch_model.specs.declared.blocks.TheConstants.{BLOCK}
use Rattle.patch_model.specs.Entry.{Entry, is_among}
use Rattle.patch_model.specs.Execution.{Execution}
use Rattle.patch_model.specs.History.{history_of, cached}
use Rattle.patch_model.specs.Laying.{length-lay}
use Rattle.patch_model.specs.Member.{In, filter-In, Contains-from_In}
use Rattle.patch_model.specs.Orderly.{IsOrderlyBlock}
use Rattle.patch_model.specs.Pile.{end, lay, pile}
use Rattle.patch_model.specs.Refusing.{bare}
use Rattle.patch_model.specs.declared.refusals.Refusal.{Refusal}
use Rattle.patch_model.specs.declared.refusals.RefusalKind.TheVariants as kind
use Rattle.patch_cache.specs.Viewing.{IsRead}
use Rattle.patch_handles.specs.declared.answers.Answer.{Answer}
use Rattle.patch_handles.specs.declared.answers.Answer.TheVariants.{Done}
use Rattle.patch_handles.specs.Answering.{number_of}
use Rattle.patch_handles.specs.Copying.{copied, answer_copying}
use Rattle.patch_engine_c.specs.Answering.{Tells, is_done}

pile_long : (es : List Entry) (b : List ℕ) → length b ≡ BLOCK → ((e : Entry) → In es e → end e.patch ≤ BLOCK) → length (pile b (map (λ e. e.patch) es)) ≡ BLOCK
pile_long [] b long fits = long
pile_long (e ∷ es) b long fits =
    let low = fits e (inl refl) in
    pile_long es (lay b e.patch) (length-lay b e.patch (omega arith) ∙ long) (λ f i. fits f (inr i))

pub block_long : (run : Execution) (b : ℕ) → IsOrderlyBlock (history_of run b) b → length (cached (history_of run b)) ≡ BLOCK
block_long run b orderly =
    let h = history_of run b in
    pile_long (filter (λ e. not (is_among [] e.class)) h.entries) h.first orderly.long
    (λ e i. orderly.orderly.fits e (Contains-from_In h.entries e (filter-In (λ e. not (is_among [] e.class)) h.entries e i).0))

slice_long : (xs : List ℕ) (start n : ℕ) → start + n ≤ length xs → length (slice_range xs start (start + n)) ≡ n
slice_long xs start n low =
    let whole : start + n - start ≡ n = omega arith in
    let rest : length (drop start xs) ≡ length xs - start = length-drop start xs in
    length-take-le (start + n - start) (drop start xs) (omega (arith, rest, low)) ∙ whole

-- no test of two refuses
both_off : {X : Type 0} (a b : Bool) (x y : X) → (if a then Some x else if b then Some y else None) ≡ None → (a ≡ false) × (b ≡ false)
both_off true b x y none = absurd (cc)
both_off false true x y none = absurd (cc)
both_off false false x y none = (refl, refl)

-- a buffer that has just so much room has all
all_copied : (bytes into : List ℕ) → length bytes ≡ length into → (copied bytes into ≡ bytes) × (answer_copying bytes into ≡ Done)
all_copied bytes into same =
    let fits : nat_le (length bytes) (length into) ≡ true = grind (arith, nat_tests) in
    let rest : drop (length bytes) into ≡ [] = ap (λ n. drop n into) same ∙ drop-length into in
    (rw (fits, rest) (append-nil bytes), rw fits refl)

pub read_so : (run : Execution) (block start : ℕ) (bytes into into_now : List ℕ) (answer : Answer) (Said : Refusal → Type 0)
    → (block < length run.first → IsOrderlyBlock (history_of run block) block) → IsRead run block start (length into) bytes
    → answer ≡ answer_copying bytes into → into_now ≡ copied bytes into → Tells (number_of answer) (IsRead run block start (length into) into_now) Said
read_so run block start bytes into into_now answer Said orderly is answer_is into_is =
    let off = both_off (nat_le (length run.first) block) (nat_lt BLOCK (start + length into)) (bare kind.NoSuchBlock) (bare kind.OutOfBlock) is.0 in
    let known : block < length run.first = let o = off.0 in grind (arith, nat_tests) in
    let within : start + length into ≤ BLOCK = let o = off.1 in grind (arith, nat_tests) in
    let whole = block_long run block (orderly known) in
    let long : length bytes ≡ length into = ap length is.1 ∙ slice_long (cached (history_of run block)) start (length into) (omega (arith, within, whole)) in
    let all = all_copied bytes into long in
    is_done (ap number_of (answer_is ∙ all.1)) (is.0, into_is ∙ all.0 ∙ is.1)
