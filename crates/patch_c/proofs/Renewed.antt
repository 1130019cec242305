-- A store that has begun anew stands on the blocks of its file as one that was just opened on them.
use mathlib.Core.Logic.{∥∥₁_map}
use Rattle.std.proofs.Common.{◌≡◌, ◌<◌, ◌+◌, ◌∙◌, ℕ, Bool, true, false, inl, inr, Result, Ok, Err, List, [], ◌∷◌, length, get_or, refl, sym, ap, subst, arith, cond}
use Rattle.std.specs.Prelude.{◌==◌, not, IsTrue, count_by, MatchResult, OnErr}
use Rattle.std.proofs.lemmas.Bool.{cases_Bool}
use Rattle.std.proofs.lemmas.List.{ext_get_or}
use Rattle.std.proofs.lemmas.List.FromFn.{get_or-map-range_with_len, length-map-range_with_len}
use Rattle.std.proofs.lemmas.List.Sums.{sum_by-cons}
use Rattle.patch_model.specs.Entry.{Entry, is_durable, is_live}
use Rattle.patch_model.specs.Execution.{Execution}
use Rattle.patch_model.specs.History.{history_of, of_block, cached}
use Rattle.patch_model.specs.Legal.{IsLegal}
use Rattle.patch_model.specs.Member.{In, filter-In, list_all-from}
use Rattle.patch_model.specs.Renewed.{cached_blocks, is_clean}
use Rattle.patch_model.specs.State.{entries_of}
use Rattle.patch_cache.specs.Waves.{HoldImages}
use Rattle.patch_history.specs.History.{History, execution_of}
use Rattle.patch_store.specs.Meaning.{Store, IsStoreOf}
use Rattle.patch_store.specs.Opening.{at_opening}
use Rattle.patch_store.specs.Renewing.{HasBegunAnew, IsUnderWay}
use Rattle.patch_disks.proofs.Calling.{opened_so}
use Rattle.patch_disks.specs.Running.{StandsOn}
use Rattle.patch_c.specs.LegalStores.{Stands, StandsSomewhere}
use Rattle.patch_c.specs.Renewing.{is_worn, IsRenewed, RenewalsStay}

-- Where no patch is live each is durable, and so each of a block's.
each_durable : (es : List Entry) → count_by is_live es ≡ 0 → (e : Entry) → In es e → is_durable e ≡ true
each_durable [] none e i = absurd i
each_durable (x ∷ es) none e i =
    let sum : count_by is_live (x ∷ es) ≡ cond (is_live x) 1 0 + count_by is_live es = sum_by-cons (λ y. cond (is_live y) 1 0) x es in
    elim (cases_Bool (is_durable x)) [
      | inl durable ↦
          let skipped : count_by is_live (x ∷ es) ≡ 0 + count_by is_live es = sum ∙ ap (λ (b : Bool). cond (not b) 1 0 + count_by is_live es) durable in
          let rest : count_by is_live es ≡ 0 = omega (arith, skipped, none) in
          elim i [ inl same ↦ sym (ap is_durable same) ∙ durable | inr j ↦ each_durable es rest e j ]
      | inr live ↦
          let one : count_by is_live (x ∷ es) ≡ 1 + count_by is_live es = sum ∙ ap (λ (b : Bool). cond (not b) 1 0 + count_by is_live es) live in
          absurd (omega (arith, one, none))
    ]

each_clean : (run : Execution) → count_by is_live (entries_of run) ≡ 0 → (block : ℕ) → IsTrue (is_clean run block)
each_clean run none block =
    list_all-from is_durable (of_block block (entries_of run)) (λ e i. each_durable (entries_of run) none e (filter-In (λ e. e.patch.block == block) (entries_of run) e i).0)

-- what an honest device holds of blocks of which no patch is live
abbrev AreHeld : Type 0
AreHeld =
    (run : Execution) (contents : List (List ℕ)) (block : ℕ) → IsLegal run → HoldImages run contents
    → block < length run.first → IsTrue (is_clean run block) → get_or contents block [] ≡ cached (history_of run block)

held_blocks : AreHeld → (run : Execution) (contents : List (List ℕ)) → IsLegal run → HoldImages run contents → count_by is_live (entries_of run) ≡ 0
    → cached_blocks run ≡ contents
held_blocks held run contents legal images none =
    let count : length (cached_blocks run) ≡ length run.first = length-map-range_with_len (λ block. cached (history_of run block)) 0 (length run.first) in
    ext_get_or [] (cached_blocks run) contents (count ∙ sym images.count) (λ b less.
    let inside : b < length run.first = omega (arith, less, count) in
    get_or-map-range_with_len (λ block. cached (history_of run block)) 0 (length run.first) b b [] inside (omega arith)
    ∙ sym (held run contents b legal images inside (each_clean run none b)))

stands_anew : AreHeld → (spent : Bool) (blocks : List (List ℕ)) (old new : Store) (h : History) → Stands spent old blocks h → HasBegunAnew h new
    → StandsSomewhere spent new blocks
stands_anew held spent blocks old new h stands begun =
    let run = execution_of h in (
      at_opening (cached_blocks run) begun.ledger,
      record {
        represents = begun.represents;
        on = λ unspent.
            let same = held_blocks held run blocks stands.represents.legal.legal (stands.on unspent).images begun.may.none_live in
            subst (StandsOn new (at_opening (cached_blocks run) begun.ledger)) same
            (opened_so (cached_blocks run) new (record { ledger = begun.ledger; reads = begun.reads; represents = begun.represents }));
      },
    )

pub renewals_stay : AreHeld → RenewalsStay
renewals_stay held spent blocks old new stands begun =
    ∥∥₁_map stands (λ w. stands_anew held spent blocks old new w.0 w.1 (begun w.0 w.1.represents))

-- What a renewal that was tried has come to.

pub stands_renewed : RenewalsStay → {E : Type 0} (spent : Bool) (blocks : List (List ℕ)) (old new : Store) (result : Result (Unit {0}) E) → ∥ StandsSomewhere spent old blocks ∥₁
    → ((h : History) → IsStoreOf old h → MatchResult result (λ _. HasBegunAnew h new) (λ _. IsUnderWay h)) → OnErr result (new ≡ old)
    → ∥ StandsSomewhere spent new blocks ∥₁
stands_renewed stay spent blocks old new (Ok done) stands begun same = stay spent blocks old new stands begun
stands_renewed stay spent blocks old new (Err live) stands held same = subst (λ s. ∥ StandsSomewhere spent s blocks ∥₁) (sym same) stands

pub renewed_so : {E : Type 0} (h : History) (old new : Store) (result : Result (Unit {0}) E) → IsTrue (is_worn h)
    → MatchResult result (λ _. HasBegunAnew h new) (λ _. IsUnderWay h) → OnErr result (new ≡ old) → IsRenewed h old new
renewed_so h old new (Ok done) worn begun same = inl (worn, begun)
renewed_so h old new (Err live) worn held same = inr ((λ _. held), same)
