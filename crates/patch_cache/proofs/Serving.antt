-- Asks that are served.
use Rattle.std.proofs.Common.{◌≡◌, ℕ, Bool, false, inl, inr, List, refl, ap, ◌∙◌, sym}
use Rattle.patch_model.specs.declared.refusals.Refusal.{Refusal}
use Rattle.patch_model.specs.declared.refusals.RefusalKind.{RefusalKind}
use Rattle.patch_model.specs.declared.refusals.RefusalKind.TheVariants as kind
use Rattle.patch_model.specs.Execution.{Execution}
use Rattle.patch_model.specs.Legal.{IsLegal}
use Rattle.patch_model.specs.Refusing.{bare}
use Rattle.patch_device.specs.declared.devices.Device.{Ghosts}
use Rattle.patch_cache.specs.Contents.{Contents}
use Rattle.patch_cache.specs.Asks.{Ask, Create, Merge, Send, Complete, View, Answer, Refused, Landed, IsFault, is_complete}
use Rattle.patch_cache.specs.Running.{IsAnsweredBy, IsServedBy, HasWritten}
use Rattle.patch_cache.specs.declared.flights.Flights.{Flights}
use Rattle.patch_cache.proofs.Crashing.{DisksStay, unwritten}

-- nothing but a completion writes
pub unchanged : (run : Execution) (ask : Ask) (answer : Answer) (disk : List (List ℕ)) → is_complete ask ≡ false → HasWritten run ask answer disk disk
unchanged run (Create block start bytes named undo) answer disk other = refl
unchanged run (Merge a b) answer disk other = refl
unchanged run (Send block) answer disk other = refl
unchanged run (Complete block) answer disk other = absurd (cc)
unchanged run (View block moves start len) answer disk other = refl

-- an ask that is answered with no use of the device
pub served_aside : {A D : Type 0} → DisksStay → (g : Ghosts D) (whole : Bool) (run : Execution) (ask : Ask) (answer : Answer) (cache : Contents) (flights : Flights A) (device : D) → is_complete ask ≡ false
    → IsLegal run → (IsFault answer → ⊥) → IsAnsweredBy whole run ask answer cache flights → IsServedBy g whole run ask answer cache flights device device
served_aside stay g whole run ask answer cache flights device other legal faultless answered = record {
  answered = answered;
  fault = λ is. absurd (faultless is);
  written = λ honest. unchanged run ask answer (g.contents device) other;
  crash = λ honest left. unwritten stay g run ask answer device other legal answered.runs.cache_is.legal left;
}

-- a stranger is no fault
other_kind : (cause : Refusal) (one two : RefusalKind) → (one ≡ two → ⊥) → cause ≡ bare one → Refused cause ≡ Refused (bare two) → ⊥
other_kind cause one two apart is e =
    let same : cause ≡ bare two = cc in
    apart (ap (λ (c : Refusal). c.kind) (sym is ∙ same))

pub stranger_faultless : (cause : Refusal) → cause ≡ bare kind.Stranger → IsFault (Refused cause) → ⊥
stranger_faultless cause is (inl e) = other_kind cause kind.Stranger kind.Fault (λ k. absurd (cc)) is e
stranger_faultless cause is (inr e) = other_kind cause kind.Stranger kind.SyncFailed (λ k. absurd (cc)) is e

pub memory_faultless : IsFault (Refused (bare kind.OutOfMemory)) → ⊥
memory_faultless (inl e) = other_kind (bare kind.OutOfMemory) kind.OutOfMemory kind.Fault (λ k. absurd (cc)) refl e
memory_faultless (inr e) = other_kind (bare kind.OutOfMemory) kind.OutOfMemory kind.SyncFailed (λ k. absurd (cc)) refl e

pub landed_faultless : (block : ℕ) (numbers : List ℕ) → IsFault (Landed block numbers) → ⊥
landed_faultless block numbers (inl e) = absurd (cc)
landed_faultless block numbers (inr e) = absurd (cc)
