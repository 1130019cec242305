-- A call begins no write, so none is under way behind it where none was before, and the blocks of the file stay the images of the store's.
use mathlib.Core.Logic.{∥∥₁_map}
use Rattle.std.proofs.Common.{◌≡◌, ◌∙◌, ℕ, Bool, true, false, List, [], refl, sym, ap, subst}
use Rattle.std.specs.Prelude.{IsFalse}
use Rattle.patch_device.specs.Blocks.{AreWhole}
use Rattle.patch_history.specs.Command.{Command, Reply}
use Rattle.patch_history.specs.History.{History, Call, with_event}
use Rattle.patch_history.specs.StoreState.{at_opening}
use Rattle.patch_store.specs.Flushing.{with_writes}
use Rattle.patch_store.specs.Meaning.{Store, IsStoreOf, HasAnswered}
use Rattle.patch_store.specs.Opening.{IsOpened, at_opening as at_first}
use Rattle.patch_disks.proofs.Calling.{opened_so}
use Rattle.patch_disks.specs.Running.{StandsOn}
use Rattle.patch_disks.proofs.Resting.{StatesExtend, ImagesStay, rests_behind}
use Rattle.patch_handles.specs.declared.answers.Answer.{Answer}
use Rattle.patch_handles.specs.declared.answers.Answer.TheVariants.{Done}
use Rattle.patch_c.specs.declared.tape.Tape.{Tape}
use Rattle.patch_device.specs.Cuts.{written_behind}
use Rattle.patch_c.specs.Saving.{HasSaved, HasWrittenOn}
use Rattle.patch_c.specs.Tape.{file_of, contents_of, events_of}
use Rattle.patch_c.specs.LegalStores.{StandsSomewhere, CallsStay}

pub stays_on : StatesExtend → ImagesStay → (h : History) (writer : ℕ) (command : Command) (reply : Reply) (old new : Store) (blocks : List (List ℕ)) → StandsOn old h blocks
    → (answered : HasAnswered h writer command reply old new) → StandsOn new (with_event h (Call writer command reply answered.steps)) blocks
stays_on extend stay h writer command reply old new blocks stands answered =
    let now = answered.gained.represents in
    let rests = rests_behind extend stay h writer command reply answered.steps blocks (at_opening h.opening h.first) now.legal.right
    (record { no_flight = stands.still.no_flight; images = stands.images }) in
    record { still = record { represents = now; no_flight = rests.no_flight }; images = rests.images }

pub calls_stay : StatesExtend → ImagesStay → CallsStay
calls_stay extend stay spent blocks writer command reply old new stands answers =
    ∥∥₁_map stands (λ w.
    let answered = answers w.0 w.1.represents in (
      with_event w.0 (Call writer command reply answered.steps),
      record {
        represents = answered.gained.represents;
        on = λ unspent. stays_on extend stay w.0 writer command reply old new blocks (w.1.on unspent) answered;
      },
    ))

-- so it is at first
pub fresh_so : (s : Store) (blocks : List (List ℕ)) → IsOpened blocks s → ∥ StandsSomewhere false s blocks ∥₁
fresh_so s blocks opened =
    ∣ (at_first blocks opened.ledger, record { represents = opened.represents; on = λ _. opened_so blocks s opened }) ∣₁

-- each of its blocks is whole
pub whole_so : (s : Store) (blocks held : List (List ℕ)) → held ≡ blocks → IsOpened blocks s → AreWhole held
whole_so s blocks held same opened = subst AreWhole (sym same) opened.represents.legal.legal.blocks

-- an empty tape is of what its file holds
pub empty_holds : (tape : Tape) (blocks : List (List ℕ)) → file_of tape ≡ blocks → events_of tape ≡ [] → contents_of tape ≡ blocks
empty_holds tape blocks file none = ap (written_behind (file_of tape)) none ∙ file

-- where no sync is done any more nothing is said of the blocks
pub spent_so : (before : Bool) (s : Store) (blocks blocks_now : List (List ℕ)) → ∥ StandsSomewhere before s blocks ∥₁ → ∥ StandsSomewhere true s blocks_now ∥₁
spent_so before s blocks blocks_now stands = ∥∥₁_map stands (λ w. (w.0, record { represents = w.1.represents; on = λ no. absurd (cc) }))

-- and of the same blocks the same is said
pub same_so : (spent : Bool) (s : Store) (blocks blocks_now : List (List ℕ)) → blocks_now ≡ blocks → ∥ StandsSomewhere spent s blocks ∥₁
    → ∥ StandsSomewhere spent s blocks_now ∥₁
same_so spent s blocks blocks_now same stands = subst (λ all. ∥ StandsSomewhere spent s all ∥₁) (sym same) stands

-- and behind a sync
after_sync : (answer : Answer) (spent : Bool) (h : History) (new : Store) (blocks : List (List ℕ)) → (answer ≡ Done → HasSaved h new blocks) → HasWrittenOn h new
    → (IsFalse spent → answer ≡ Done) → StandsSomewhere spent new blocks
after_sync answer true h new blocks saved written done =
    (with_writes h written.writes, record { represents = written.represents; on = λ no. absurd (cc) })
after_sync answer false h new blocks saved written done =
    let all = saved (done refl) in
    (all.next, record { represents = all.stands.still.represents; on = λ _. all.stands })

pub synced_stands : (answer : Answer) (before after : Bool) (old new : Store) (blocks blocks_now : List (List ℕ)) → IsFalse before
    → ∥ StandsSomewhere before old blocks ∥₁ → ((h : History) → StandsOn old h blocks → answer ≡ Done → HasSaved h new blocks_now)
    → ((h : History) → IsStoreOf old h → HasWrittenOn h new) → (IsFalse after → answer ≡ Done) → ∥ StandsSomewhere after new blocks_now ∥₁
synced_stands answer before after old new blocks blocks_now unspent stands saved written done =
    ∥∥₁_map stands (λ w. after_sync answer after w.0 new blocks_now (saved w.0 (w.1.on unspent)) (written w.0 w.1.represents) done)
