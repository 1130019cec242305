-- How the answers grow, line by line.
use Rattle.std.proofs.Common.{◌≡◌, ℕ, ◌∙◌, Bool, true, false, List, [], ◌∷◌, ◌++◌, Option, Some, None, refl, sym, ap, subst, append_assoc}
use Rattle.std.specs.Prelude.{not, ◌&&◌, Result, Ok, Err, IfOk, IfSome, OnOk, String, string_bytes, MatchBool, MatchOption, if◌then◌else◌, flat_map}
use Rattle.std.specs.declared.alloc.Global.{Global}
use Rattle.std.specs.Io.KnownBytes.{Appends}
use Rattle.std.proofs.lemmas.List.{append-nil}
use Rattle.patch_device.specs.SameDevice.{IsSameDevice}
use Rattle.patch_device.specs.declared.devices.Device.{Ghosts}
use Rattle.patch_cache.specs.Joining.{SafeJoin}
use Rattle.patch_history.specs.Command.{Command, Reply, is_refused}
use Rattle.patch_history.specs.History.{History, Call, steps_in}
use Rattle.patch_store.specs.Meaning.{Store}
use Rattle.patch_store.specs.Opening.{IsOpened, at_opening}
use Rattle.patch_store.specs.Running.{with_calls}
use Rattle.patch_commands.specs.Asking.{call_of}
use Rattle.patch_commands.specs.Reply.{reply_line, synced_line}
use Rattle.patch_commands.specs.Shared.{is_sync}
use Rattle.patch_commands.specs.declared.commands.CommandLine.{CommandLine}
use Rattle.patch_commands.specs.declared.commands.CommandLine.TheVariants as line
use Rattle.patch_replay.specs.Growing.{twice, same}
use Rattle.patch_disks.specs.declared.answering.Reclaims.{Reclaims}
use Rattle.patch_disks.specs.declared.endings.Stop.{Stop}
use Rattle.patch_disks.specs.Answering.{saves, with_call, IsSaved, IsCallAnswered, IsAnswered, AreAnswered}
use Rattle.patch_disks.specs.Ending.{IsDoneBehind}
use Rattle.patch_disks.specs.Going.{GoesSafely, EndsSafely, StillLasts}
use Rattle.patch_disks.specs.Reading.{HasLines}
use Rattle.patch_disks.specs.Running.{HasRun, HasRunScript, StandsOn, IsCalled, IsCommanded, IsTold, HasSaved, HasAnswered, HasCome}
use Rattle.patch_disks.proofs.Going.{goes_still, goes_alike, goes_by_call, goes_both, ends_behind, lasts_alike, lasts_both}
use Rattle.patch_disks.proofs.Resting.{run_behind, run_behind_calls}

-- One line.

by_reply : (b : Bool) (text reply synced : List ℕ) (SavedSo GoesOn : Type 0) → b ≡ false → text ≡ reply → GoesOn
    → (text ≡ (if b then synced else reply)) × MatchBool b SavedSo GoesOn
by_reply true text reply synced SavedSo GoesOn silent told on = absurd (cc)
by_reply false text reply synced SavedSo GoesOn silent told on = (told, on)

by_save : (b : Bool) (text reply synced : List ℕ) (SavedSo GoesOn : Type 0) → b ≡ true → text ≡ synced → SavedSo
    → (text ≡ (if b then synced else reply)) × MatchBool b SavedSo GoesOn
by_save true text reply synced SavedSo GoesOn loud told saved = (told, saved)
by_save false text reply synced SavedSo GoesOn loud told saved = absurd (cc)

-- the execution behind calls
pub goes_behind : {D : Type 0} (g : Ghosts D) (r : Reclaims) (h : History) (call : ℕ × Command) (reply : Reply) (store : Store) (contents : List (List ℕ)) (device : D)
    → (commanded : IsCommanded r h call reply store contents) → GoesSafely g h (with_calls h commanded.calls) device device
goes_behind g r h call reply store contents device commanded =
    goes_by_call g h (with_calls h commanded.calls) (flat_map steps_in commanded.calls) device (run_behind_calls h commanded.calls) commanded.stays

-- and behind one
pub goes_behind_call : {D : Type 0} (g : Ghosts D) (h : History) (call : ℕ × Command) (reply : Reply) (store : Store) (contents : List (List ℕ)) (device : D)
    → (called : IsCalled h call reply store contents) → GoesSafely g h (with_call h call reply called.steps) device device
goes_behind_call g h call reply store contents device called =
    goes_by_call g h (with_call h call reply called.steps) called.steps device (run_behind h (Call call.0 call.1 reply called.steps)) called.stays

pub call_ends : {D : Type 0} (g : Ghosts D) → SafeJoin g → (h : History) (call : ℕ × Command) (reply : Reply) (mid : Store) (before now : D)
    → (called : IsCalled h call reply mid (g.contents before)) → EndsSafely g (with_call h call reply called.steps) before now → EndsSafely g h before now
call_ends g join h call reply mid before now called ends =
    ends_behind g join h (with_call h call reply called.steps) before before now (goes_behind_call g h call reply mid (g.contents before) before called) ends

-- what is answered by the command that a line asks for
by_call : (r : Reclaims) (h : History) (asked : CommandLine) (call : ℕ × Command) (text : List ℕ) (next : History) → call_of asked ≡ Some call
    → IsCallAnswered r h asked call text next → IsAnswered r h asked text next
by_call r h asked call text next is answered =
    subst (λ c. MatchOption c ((text ≡ synced_line) × IsSaved h next) (λ x. IsCallAnswered r h asked x text next)) (sym is) answered

-- a line that saves nothing is answered by the reply to its command
pub answered_by_reply : {D : Type 0} (g : Ghosts D) (r : Reclaims) (h : History) (asked : CommandLine) (call : ℕ × Command) (text : List ℕ) (store : Store) (device : D)
    → call_of asked ≡ Some call → ((reply : Reply) → saves asked reply ≡ false) → IsTold r h call text store (g.contents device)
    → HasAnswered g r h asked text store device device
answered_by_reply g r h asked call text store device is silent told =
    let next = with_calls h told.commanded.calls in
    let so = by_reply (saves asked told.reply) text (reply_line told.reply) synced_line (IsSaved next next) (next ≡ next) (silent told.reply) told.told refl in
    record {
      next = next;
      answered = by_call r h asked call text next is
          (record { reply = told.reply; calls = told.commanded.calls; are = told.commanded.are; told = so.0; goes_on = so.1 });
      stands = told.commanded.stands;
      goes = goes_behind g r h call told.reply store (g.contents device) device told.commanded;
    }

pub each_by_reply : {D E : Type 0} (g : Ghosts D) (r : Reclaims) (h : History) (asked : CommandLine) (call : ℕ × Command) (result : Result (String Global) E) (store : Store)
    (device : D) → call_of asked ≡ Some call → ((reply : Reply) → saves asked reply ≡ false)
    → IfOk result (λ text. IsTold r h call (string_bytes text) store (g.contents device))
    → IfOk result (λ text. HasAnswered g r h asked (string_bytes text) store device device)
each_by_reply g r h asked call (Ok text) store device is silent told = answered_by_reply g r h asked call (string_bytes text) store device is silent told
each_by_reply g r h asked call (Err e) store device is silent told = tt

-- whether a line saves, by what it is and by its reply
saves_none : (s r : Bool) → r ≡ true → (s && not r) ≡ false
saves_none true true refused = refl
saves_none true false refused = absurd (cc)
saves_none false r refused = refl

saves_all : (s r : Bool) → s ≡ true → r ≡ false → (s && not r) ≡ true
saves_all true true sync accepted = absurd (cc)
saves_all true false sync accepted = refl
saves_all false r sync accepted = absurd (cc)

pub saves_never : (asked : CommandLine) → is_sync asked ≡ false → (reply : Reply) → saves asked reply ≡ false
saves_never asked none reply = ap (λ s. s && not (is_refused reply)) none

-- a line that is refused
pub sync_refused : {D : Type 0} (g : Ghosts D) (r : Reclaims) (h : History) (asked : CommandLine) (call : ℕ × Command) (reply : Reply) (text : List ℕ) (store : Store) (device : D)
    → call_of asked ≡ Some call → is_refused reply ≡ true → text ≡ reply_line reply → IsCommanded r h call reply store (g.contents device)
    → HasAnswered g r h asked text store device device
sync_refused g r h asked call reply text store device is refused told commanded =
    let next = with_calls h commanded.calls in
    let silent : saves asked reply ≡ false = saves_none (is_sync asked) (is_refused reply) refused in
    let so = by_reply (saves asked reply) text (reply_line reply) synced_line (IsSaved next next) (next ≡ next) silent told refl in
    record {
      next = next;
      answered = by_call r h asked call text next is (record { reply = reply; calls = commanded.calls; are = commanded.are; told = so.0; goes_on = so.1 });
      stands = commanded.stands;
      goes = goes_behind g r h call reply store (g.contents device) device commanded;
    }

-- and a sync that isn't
pub sync_saved : {D : Type 0} (g : Ghosts D) → SafeJoin g → (r : Reclaims) (h : History) (asked : CommandLine) (call : ℕ × Command) (reply : Reply) (text : List ℕ) (mid store : Store)
    (before now : D) → call_of asked ≡ Some call → is_sync asked ≡ true → is_refused reply ≡ false → text ≡ synced_line
    → (commanded : IsCommanded r h call reply mid (g.contents before)) → HasSaved g (with_calls h commanded.calls) store before now
    → HasAnswered g r h asked text store before now
sync_saved g join r h asked call reply text mid store before now is sync accepted told commanded saved =
    let behind = with_calls h commanded.calls in
    let loud : saves asked reply ≡ true = saves_all (is_sync asked) (is_refused reply) sync accepted in
    let so = by_save (saves asked reply) text (reply_line reply) synced_line (IsSaved behind saved.next) (saved.next ≡ behind) loud told saved.saved in
    record {
      next = saved.next;
      answered = by_call r h asked call text saved.next is (record { reply = reply; calls = commanded.calls; are = commanded.are; told = so.0; goes_on = so.1 });
      stands = saved.stands;
      goes = goes_both g join h behind saved.next before before now (goes_behind g r h call reply mid (g.contents before) before commanded) saved.goes;
    }

-- one that asks for no call
pub all_saved : {D : Type 0} (g : Ghosts D) (r : Reclaims) (h : History) (writer : ℕ) (text : List ℕ) (store : Store) (before now : D) → text ≡ synced_line
    → HasSaved g h store before now → HasAnswered g r h (line.Sync writer None) text store before now
all_saved g r h writer text store before now told saved =
    record { next = saved.next; answered = (told, saved.saved); stands = saved.stands; goes = saved.goes }

-- however its save ends
pub sync_ends : {D : Type 0} (g : Ghosts D) → SafeJoin g → (r : Reclaims) (h : History) (call : ℕ × Command) (reply : Reply) (mid : Store) (before now : D)
    → (commanded : IsCommanded r h call reply mid (g.contents before)) → EndsSafely g (with_calls h commanded.calls) before now → EndsSafely g h before now
sync_ends g join r h call reply mid before now commanded ends =
    ends_behind g join h (with_calls h commanded.calls) before before now (goes_behind g r h call reply mid (g.contents before) before commanded) ends

-- One line more.

pushed : (r : Reclaims) (h mid next : History) (lines : List CommandLine) (text t : List ℕ) (asked : CommandLine) → AreAnswered r h lines text mid → IsAnswered r mid asked t next
    → AreAnswered r h (lines ++ asked ∷ []) (text ++ t) next
pushed r h mid next [] text t asked so_far one =
    (next, t, [], subst (λ x. IsAnswered r x asked t next) so_far.1 one, ap (λ (x : List ℕ). x ++ t) so_far.0 ∙ sym (append-nil t), (refl, refl))
pushed r h mid next (l ∷ lines) text t asked so_far one =
    (so_far.0, so_far.1, so_far.2 ++ t, so_far.3, ap (λ (x : List ℕ). x ++ t) so_far.4 ∙ append_assoc so_far.1 so_far.2 t, pushed r so_far.0 mid next lines so_far.2 t asked so_far.5 one)

pub at_first : {D : Type 0} (g : Ghosts D) (r : Reclaims) (h : History) (old : Option (List ℕ)) (store : Store) (device : D) → StandsOn store h (g.contents device)
    → HasCome g r h [] old old store device device
at_first g r h old store device stands = record { text = []; written = same old; last = h; answers = (refl, refl); stands = stands; goes = goes_still g h device }

pub one_more_line : {D : Type 0} (g : Ghosts D) → SafeJoin g → (r : Reclaims) (h : History) (first : List CommandLine) (asked : CommandLine) (old mid new : Option (List ℕ))
    (bytes text : List ℕ) (store later : Store) (before between now : D) → bytes ≡ text → (so_far : HasCome g r h first old mid store before between)
    → HasAnswered g r so_far.last asked text later between now → Appends mid new bytes → HasCome g r h (first ++ asked ∷ []) old new later before now
one_more_line g join r h first asked old mid new bytes text store later before between now said so_far one appends = record {
  text = so_far.text ++ text;
  written = twice old mid new so_far.text text so_far.written (subst (Appends mid new) said appends);
  last = one.next;
  answers = pushed r h so_far.last one.next first so_far.text text asked so_far.answers one.answered;
  stands = one.stands;
  goes = goes_both g join h so_far.last one.next before between now so_far.goes one.goes;
}

-- The whole run.

pub run_so : {D : Type 0} (g : Ghosts D) → SafeJoin g → (r : Reclaims) (lines : List CommandLine) (old new : Option (List ℕ)) (contents : List (List ℕ)) (opened mid store : Store)
    (o : IsOpened contents opened) (before between now : D) (come : HasCome g r (at_opening contents o.ledger) lines old new mid before between)
    → StillLasts g before between → StillLasts g between now → HasSaved g come.last store between now → HasRun g r lines old new contents before now
run_so g join r lines old new contents opened mid store o before between now come lasts lasts_then saved = record {
  ledger = o.ledger;
  reads = o.reads;
  text = come.text;
  written = come.written;
  answered = come.last;
  answers = come.answers;
  last = saved.next;
  saved = saved.saved;
  legal = saved.stands.still.represents.legal;
  disk = saved.disk;
  goes = goes_both g join (at_opening contents o.ledger) come.last saved.next before between now come.goes saved.goes;
  lasts = lasts_both g before between now lasts lasts_then;
}

pub each_run_so : {D T E : Type 0} (g : Ghosts D) → SafeJoin g → (r : Reclaims) (result : Result T E) (lines : List CommandLine) (old new : Option (List ℕ)) (contents : List (List ℕ))
    (opened mid store : Store) (o : IsOpened contents opened) (before between now : D) (come : HasCome g r (at_opening contents o.ledger) lines old new mid before between)
    → StillLasts g before between → OnOk result (StillLasts g between now) → OnOk result (HasSaved g come.last store between now)
    → OnOk result (HasRun g r lines old new contents before now)
each_run_so g join r (Ok x) lines old new contents opened mid store o before between now come lasts lasts_then saved =
    run_so g join r lines old new contents opened mid store o before between now come lasts lasts_then saved
each_run_so g join r (Err e) lines old new contents opened mid store o before between now come lasts lasts_then saved = tt

-- the device was read before
pub run_behind_reads : {D : Type 0} (g : Ghosts D) → SafeJoin g → (r : Reclaims) (lines : List CommandLine) (old new : Option (List ℕ)) (contents : List (List ℕ)) (before mid now : D)
    → IsSameDevice g before mid → g.moment mid ≡ g.moment before → g.contents mid ≡ g.contents before → HasRun g r lines old new contents mid now
    → HasRun g r lines old new contents before now
run_behind_reads g join r lines old new contents before mid now device none same_contents run =
    let h = at_opening contents run.ledger in
    record {
      ledger = run.ledger;
      reads = run.reads;
      text = run.text;
      written = run.written;
      answered = run.answered;
      answers = run.answers;
      last = run.last;
      saved = run.saved;
      legal = run.legal;
      disk = run.disk;
      goes = goes_both g join h h run.last before mid now (goes_alike g h before mid device none) run.goes;
      lasts = lasts_both g before mid now (lasts_alike g before mid device none same_contents) run.lasts;
    }

pub ok_so : {T E : Type 0} (r : Result T E) (X Y : Type 0) → (X → Y) → OnOk r X → OnOk r Y
ok_so (Ok x) X Y f h = f h
ok_so (Err e) X Y f h = tt

more_written : {D : Type 0} (g : Ghosts D) (r : Reclaims) (lines : List CommandLine) (old mid new : Option (List ℕ)) (contents : List (List ℕ)) (before now : D) → Appends mid new []
    → HasRun g r lines old mid contents before now → HasRun g r lines old new contents before now
more_written g r lines old mid new contents before now none run =
    record {
      ledger = run.ledger;
      reads = run.reads;
      text = run.text;
      written = subst (Appends old new) (append-nil run.text) (twice old mid new run.text [] run.written none);
      answered = run.answered;
      answers = run.answers;
      last = run.last;
      saved = run.saved;
      legal = run.legal;
      disk = run.disk;
      goes = run.goes;
      lasts = run.lasts;
    }

pub concluded_so : {D : Type 0} (g : Ghosts D) (r : Reclaims) (ran : Result (Unit {0}) Stop) (lines : List CommandLine) (old mid new : Option (List ℕ)) (contents : List (List ℕ))
    (before now : D) → OnOk ran (HasRun g r lines old mid contents before now) → IsDoneBehind ran mid new → HasRun g r lines old new contents before now
concluded_so g r (Ok done) lines old mid new contents before now run none = more_written g r lines old mid new contents before now none run
concluded_so g r (Err stop) lines old mid new contents before now run none = absurd none

pub script_so : {D : Type 0} (g : Ghosts D) (r : Reclaims) (input old new : Option (List ℕ)) (contents : List (List ℕ)) (before now : D) (lines : List CommandLine)
    → IfSome input (λ text. HasLines text lines) → HasRun g r lines old new contents before now → HasRunScript g r input old new contents before now
script_so g r None old new contents before now lines has run = tt
script_so g r (Some text) old new contents before now lines has run = (lines, has, run)
