-- How a run that stops is concluded.
use Rattle.std.proofs.Common.{◌≡◌, ℕ, ◌⊎◌, ◌∙◌, inl, inr, Bool, true, false, List, [], refl, sym, ap, subst}
use Rattle.std.specs.Prelude.{Option, Some, None, Result, Ok, Err, IfErr, IfSome}
use Rattle.std.specs.Io.KnownBytes.{Appends}
use Rattle.patch_replay.specs.Replay.{unread_text}
use Rattle.patch_replay.specs.declared.endings.BadScript.{BadScript}
use Rattle.patch_replay.specs.declared.streams.Sink.{Sink}
use Rattle.patch_commands.specs.declared.commands.CommandLine.{CommandLine}
use Rattle.patch_disks.specs.declared.answering.Reclaims.{Reclaims}
use Rattle.patch_disks.specs.declared.endings.Status.{Status}
use Rattle.patch_disks.specs.declared.endings.Status.TheVariants.{Done, Misused, Unreadable, Failed, OutOfMemory}
use Rattle.patch_disks.specs.declared.endings.Stop.{Stop}
use Rattle.patch_disks.specs.declared.endings.Stop.TheVariants as stop
use Rattle.patch_disks.specs.Ending.{status_of, last_line, fault_text, script_text, IsToldOrStarved, IsConcluded}
use Rattle.patch_disks.specs.Reading.{HasLines}
use Rattle.patch_disks.specs.Stopping.{starved, IsStop, IfFailed, IfStopped, AnswersSome, HasWrittenSome, HasStopped}
use Rattle.patch_replay.specs.Growing.{twice, same}
use Rattle.patch_disks.proofs.Stopping.{no_fault}

-- For what cause it fails.

pub fails_for : (status : Status) (A B : Type 0) → (A → B) → IfFailed status A → IfFailed status B
fails_for Done A B f is = tt
fails_for Misused A B f is = absurd is
fails_for (Unreadable why) A B f is = tt
fails_for Failed A B f is = f is
fails_for OutOfMemory A B f is = tt

failed_so : (status : Status) (C : Type 0) → status ≡ Failed → C → IfFailed status C
failed_so status C is cause = rw is cause

starved_so : (status : Status) (C : Type 0) → status ≡ OutOfMemory → IfFailed status C
starved_so status C is = rw is tt

-- a stop whose line is told, or that there was no memory
told_failed : {W : Type 0} (contents : W → Option (List ℕ)) (Keeps : W → Type 0) (old new : Sink W) (text : List ℕ) (why : Stop) (status : Status) (C : Bool → Type 0)
    → IsToldOrStarved contents Keeps old new text (status_of why) status → IsStop why (C old.failed) → IfFailed status ((new.failed ≡ true) ⊎ C new.failed)
told_failed contents Keeps old new text why status C (inl (inl broken)) stops = failed_so status _ broken.0 (inl broken.1)
told_failed contents Keeps old new text why status C (inl (inr told)) (inl none) = starved_so status _ (told.0 ∙ ap status_of none)
told_failed contents Keeps old new text why status C (inl (inr told)) (inr failed) = failed_so status _ (told.0 ∙ failed.0) (inr (subst C (sym told.1) failed.1))
told_failed contents Keeps old new text why status C (inr (inl broken)) stops = failed_so status _ broken.0 (inl broken.1)
told_failed contents Keeps old new text why status C (inr (inr told)) stops = starved_so status _ told.0

pub concluded_failed : {W T : Type 0} (contents : W → Option (List ℕ)) (Keeps : W → Type 0) (old new : Sink W) (ended : Result T Stop) (status : Status) (C : Bool → Type 0)
    → IsConcluded contents Keeps old new ended status → IfErr ended (λ why. IsStop why (C old.failed)) → IfFailed status ((new.failed ≡ true) ⊎ C new.failed)
concluded_failed contents Keeps old new (Ok done) status C (inl broken) stops = failed_so status _ broken.0 (inl broken.1)
concluded_failed contents Keeps old new (Ok done) status C (inr told) stops = rw told.0 tt
concluded_failed contents Keeps old new (Err stop.Write) status C concluded (inl none) = absurd (cc)
concluded_failed contents Keeps old new (Err stop.Write) status C concluded (inr failed) =
    failed_so status _ concluded.0 (inr (subst (λ (s : Sink _). C s.failed) (sym concluded.1) failed.1))
concluded_failed contents Keeps old new (Err stop.Read) status C concluded stops = told_failed contents Keeps old new unread_text stop.Read status C concluded stops
concluded_failed contents Keeps old new (Err (stop.Refused refusal)) status C concluded stops = told_failed contents Keeps old new (fault_text refusal) (stop.Refused refusal) status C concluded stops

-- a script that is refused fails for its writer alone
pub refused_failed : {W : Type 0} (contents : W → Option (List ℕ)) (Keeps : W → Type 0) (old new : Sink W) (why : BadScript) (status : Status)
    → IsToldOrStarved contents Keeps old new (script_text why) (Unreadable why) status → IfFailed status (new.failed ≡ true)
refused_failed contents Keeps old new why status (inl (inl broken)) = failed_so status _ broken.0 broken.1
refused_failed contents Keeps old new why status (inl (inr told)) = rw told.0 tt
refused_failed contents Keeps old new why status (inr (inl broken)) = failed_so status _ broken.0 broken.1
refused_failed contents Keeps old new why status (inr (inr told)) = starved_so status _ told.0

-- What it has written.

if_stopped : (status : Status) (C : Type 0) → C → IfStopped status C
if_stopped Done C said = tt
if_stopped Misused C said = said
if_stopped (Unreadable why) C said = tt
if_stopped Failed C said = said
if_stopped OutOfMemory C said = said

-- none of the script's lines was answered, or some first ones were; the text of the answers was written
pub record SaidSome (r : Reclaims) (input old new : Option (List ℕ)) (blocks : List (List ℕ)) : Type 0 where
  pub text : List ℕ
  pub answered : (text ≡ []) ⊎ IfSome input (λ script. (lines : List CommandLine) × HasLines script lines × AnswersSome r lines blocks text)
  pub written : Appends old new text

-- what is known of some lines is known of the script
of_lines : (r : Reclaims) (input : Option (List ℕ)) (lines : List CommandLine) (blocks : List (List ℕ)) (text : List ℕ) → IfSome input (λ script. HasLines script lines)
    → (text ≡ []) ⊎ AnswersSome r lines blocks text
    → (text ≡ []) ⊎ IfSome input (λ script. (lines : List CommandLine) × HasLines script lines × AnswersSome r lines blocks text)
of_lines r input lines blocks text has (inl none) = inl none
of_lines r None lines blocks text has (inr some) = inr tt
of_lines r (Some script) lines blocks text has (inr some) = inr (lines, has, some)

pub of_script : (r : Reclaims) (input old new : Option (List ℕ)) (lines : List CommandLine) (blocks : List (List ℕ)) → IfSome input (λ script. HasLines script lines)
    → HasWrittenSome r lines old new blocks → SaidSome r input old new blocks
of_script r input old new lines blocks has some = record { text = some.text; answered = of_lines r input lines blocks some.text has some.answered; written = some.written }

pub said_none : (r : Reclaims) (input old : Option (List ℕ)) (blocks : List (List ℕ)) → SaidSome r input old old blocks
said_none r input old blocks = record { text = []; answered = inl refl; written = same old }

stopped_by : (r : Reclaims) (input old mid new : Option (List ℕ)) (blocks : List (List ℕ)) (status : Status) (why : Stop) → SaidSome r input old mid blocks → status ≡ status_of why
    → Appends mid new (last_line why) → IfStopped status (HasStopped r input old new blocks status)
stopped_by r input old mid new blocks status why some ends told = if_stopped status _ (record {
  text = some.text;
  answered = some.answered;
  why = why;
  ends = sym ends;
  written = twice old mid new some.text (last_line why) some.written told;
})

told_stopped : {W : Type 0} (r : Reclaims) (contents : W → Option (List ℕ)) (Keeps : W → Type 0) (mid new : Sink W) (why : Stop) (status : Status) (input old : Option (List ℕ))
    (blocks : List (List ℕ)) → new.failed ≡ false → IsToldOrStarved contents Keeps mid new (last_line why) (status_of why) status
    → (mid.failed ≡ false → SaidSome r input old (contents mid.inner) blocks) → IfStopped status (HasStopped r input old (contents new.inner) blocks status)
told_stopped r contents Keeps mid new why status input old blocks fine (inl (inl broken)) some = absurd (no_fault new.failed fine broken.1)
told_stopped r contents Keeps mid new why status input old blocks fine (inl (inr told)) some =
    stopped_by r input old (contents mid.inner) (contents new.inner) blocks status why (some (sym told.1 ∙ fine)) told.0 told.2
told_stopped r contents Keeps mid new why status input old blocks fine (inr (inl broken)) some = absurd (no_fault new.failed fine broken.1)
told_stopped r contents Keeps mid new why status input old blocks fine (inr (inr told)) some =
    stopped_by r input old (contents mid.inner) (contents new.inner) blocks status starved (some (sym told.1 ∙ fine)) told.0 told.2

pub concluded_stopped : {W T : Type 0} (r : Reclaims) (contents : W → Option (List ℕ)) (Keeps : W → Type 0) (mid new : Sink W) (ended : Result T Stop) (status : Status)
    (input old : Option (List ℕ)) (blocks : List (List ℕ)) → IsConcluded contents Keeps mid new ended status
    → (mid.failed ≡ false → SaidSome r input old (contents mid.inner) blocks) → new.failed ≡ false → IfStopped status (HasStopped r input old (contents new.inner) blocks status)
concluded_stopped r contents Keeps mid new (Ok done) status input old blocks (inl broken) some fine = absurd (no_fault new.failed fine broken.1)
concluded_stopped r contents Keeps mid new (Ok done) status input old blocks (inr told) some fine = rw told.0 tt
concluded_stopped r contents Keeps mid new (Err stop.Write) status input old blocks concluded some fine =
    let kept = concluded.1 in
    stopped_by r input old (contents mid.inner) (contents new.inner) blocks status stop.Write (some (ap (λ (s : Sink _). s.failed) (sym kept) ∙ fine)) concluded.0
    (subst (λ (s : Sink _). Appends (contents mid.inner) (contents s.inner) []) (sym kept) (same (contents mid.inner)))
concluded_stopped r contents Keeps mid new (Err stop.Read) status input old blocks concluded some fine =
    told_stopped r contents Keeps mid new stop.Read status input old blocks fine concluded some
concluded_stopped r contents Keeps mid new (Err (stop.Refused refusal)) status input old blocks concluded some fine =
    told_stopped r contents Keeps mid new (stop.Refused refusal) status input old blocks fine concluded some

-- a script that is refused is told, or that there was no memory
pub refused_stopped : {W : Type 0} (r : Reclaims) (contents : W → Option (List ℕ)) (Keeps : W → Type 0) (old new : Sink W) (why : BadScript) (status : Status)
    (input : Option (List ℕ)) (blocks : List (List ℕ)) → IsToldOrStarved contents Keeps old new (script_text why) (Unreadable why) status → new.failed ≡ false
    → IfStopped status (HasStopped r input (contents old.inner) (contents new.inner) blocks status)
refused_stopped r contents Keeps old new why status input blocks (inl (inl broken)) fine = absurd (no_fault new.failed fine broken.1)
refused_stopped r contents Keeps old new why status input blocks (inl (inr told)) fine = rw told.0 tt
refused_stopped r contents Keeps old new why status input blocks (inr (inl broken)) fine = absurd (no_fault new.failed fine broken.1)
refused_stopped r contents Keeps old new why status input blocks (inr (inr told)) fine =
    stopped_by r input (contents old.inner) (contents old.inner) (contents new.inner) blocks status starved (said_none r input (contents old.inner) blocks) told.0 told.2

-- Why a run fails: its reader, its writer, or what its lines met.

pub of_writer : (G A : Type 0) (failed : Bool) → failed ≡ true → G ⊎ ((failed ≡ true) ⊎ A)
of_writer G A failed broken = inr (inl broken)

pub of_reader : (G A : Type 0) (failed : Bool) → (failed ≡ true) ⊎ G → G ⊎ ((failed ≡ true) ⊎ A)
of_reader G A failed (inl broken) = inr (inl broken)
of_reader G A failed (inr given_up) = inl given_up

pub of_lines_met : (G A : Type 0) (failed : Bool) → (failed ≡ true) ⊎ ((failed ≡ true) ⊎ A) → G ⊎ ((failed ≡ true) ⊎ A)
of_lines_met G A failed (inl broken) = inr (inl broken)
of_lines_met G A failed (inr met) = inr met
