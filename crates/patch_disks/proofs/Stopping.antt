-- Why a run stops.
use Rattle.std.proofs.Common.{◌≡◌, ℕ, ◌≤◌, ◌⊎◌, ◌∙◌, inl, inr, Bool, true, false, List, [], ◌++◌, refl, sym, subst, arith}
use Rattle.std.specs.Prelude.{Option, Result, Ok, Err, IfErr, IsErrAnd}
use Rattle.std.proofs.lemmas.Bool.{cases_order}
use Rattle.patch_device.specs.Device.{HasRisen, most_faults}
use Rattle.patch_device.specs.SameDevice.{IsSameDevice}
use Rattle.patch_device.specs.declared.devices.Device.{Ghosts}
use Rattle.patch_replay.specs.declared.endings.Fault.{Fault}
use Rattle.patch_replay.specs.declared.endings.Fault.TheVariants as write_fault
use Rattle.patch_model.specs.Execution.{Execution}
use Rattle.patch_cache.specs.Waves.{HasGivenUp, RisesIfGivenUp, IsFlushed}
use Rattle.patch_cache.specs.declared.refusals.FlushRefusal.{FlushRefusal}
use Rattle.patch_cache.specs.declared.refusals.FlushRefusal.TheVariants as flush
use Rattle.patch_history.specs.declared.refusals.OpenFault.{OpenFault}
use Rattle.patch_history.specs.declared.refusals.OpenFault.TheVariants as opening
use Rattle.patch_history.specs.Refusals.{open_cause}
use Rattle.patch_history.specs.History.{History}
use Rattle.patch_store.specs.Meaning.{Store}
use Rattle.patch_store.specs.Opening.{IsFaultOf, IsOpened, at_opening}
use Rattle.patch_commands.specs.declared.commands.CommandLine.{CommandLine}
use Rattle.patch_disks.specs.declared.answering.Reclaims.{Reclaims}
use Rattle.patch_disks.specs.declared.endings.Stop.{Stop}
use Rattle.patch_disks.specs.declared.endings.Stop.TheVariants as stop
use Rattle.patch_disks.specs.Running.{HasCome}
use Rattle.patch_disks.specs.Stopping.{starved, stop_of, flush_stop, IsStop, IsOfDisk, TellsWhyNotSaved, HoldNoStore, IsBroken, HasComeSome, HasWrittenSome}
use Rattle.patch_replay.specs.Growing.{same}

-- a count that rises does so over what comes before and behind
pub risen_over : (before mid now later : ℕ) → before ≤ mid → HasRisen mid now → now ≤ later → later ≤ most_faults → HasRisen before later
risen_over before mid now later low (inl up) high most = inl (omega (arith, low, up, high))
risen_over before mid now later low (inr full) high most = elim (cases_order before later) [
  | inl same ↦
      let a = full.1 in
      inr (omega (arith, same, a, high, most), omega (arith, a, high, most))
  | inr (inl under) ↦ inl under
  | inr (inr over) ↦
      let a = full.0 in
      let b = full.1 in
      absurd (omega (arith, over, low, a, b, high, most))
]

given_up : (before now : ℕ) → HasGivenUp before now → before ≤ now → HasRisen before now
given_up before now (inl up) low = inl (omega (arith, up))
given_up before now (inr full) low = elim (cases_order before now) [
  | inl same ↦ inr (same ∙ full, full)
  | inr (inl under) ↦ inl under
  | inr (inr over) ↦ absurd (omega (arith, over, low))
]

pub stop_for : (why : Stop) (A B : Type 0) → (A → B) → IsStop why A → IsStop why B
stop_for why A B f (inl none) = inl none
stop_for why A B f (inr failed) = inr (failed.0, f failed.1)

pub each_stop_for : {T : Type 0} (r : Result T Stop) (A B : Type 0) → (A → B) → IfErr r (λ why. IsStop why A) → IfErr r (λ why. IsStop why B)
each_stop_for (Ok x) A B f stops = tt
each_stop_for (Err why) A B f stops = stop_for why A B f stops

pub each_starved : {T : Type 0} (r : Result T Stop) (A : Type 0) → IfErr r (λ why. why ≡ starved) → IfErr r (λ why. IsStop why A)
each_starved (Ok x) A none = tt
each_starved (Err why) A none = inl none

-- a flush that was given up
pub flush_stops : (refusal : FlushRefusal) (why : Stop) (before mid now : ℕ) → why ≡ flush_stop refusal
    → RisesIfGivenUp {T = Unit {0}} (Err refusal) before mid → before ≤ mid → mid ≤ now → now ≤ most_faults → IsStop why (HasRisen before now)
flush_stops (flush.DeviceGaveUp block) why before mid now is risen low high most =
    rw is (inr (refl, risen_over before before mid now (omega arith) (given_up before mid risen low) high most))
flush_stops flush.SyncFailed why before mid now is risen low high most = rw is (inr (refl, risen_over before before mid now (omega arith) risen high most))
flush_stops flush.OutOfMemory why before mid now is risen low high most = inl is

-- blocks that are no store's
pub open_stops : (fault : OpenFault) (why : Stop) (contents : List (List ℕ)) → why ≡ stop.Refused (open_cause fault) → IsFaultOf contents fault
    → IsStop why (HoldNoStore contents)
open_stops opening.BadSuper why contents is first = rw is (inr (refl, inr (inr (_, first))))
open_stops opening.FileSize why contents is first = rw is (inr (refl, inr (inr (_, first))))
open_stops opening.BadPointer why contents is first = rw is (inr (refl, inr (inr (_, first))))
open_stops (opening.BadSlot slot) why contents is first = rw is (inr (refl, inr (inr (_, first))))
open_stops (opening.BadFrame slot) why contents is first = rw is (inr (refl, inr (inr (_, first))))
open_stops (opening.DuplicateKey slot) why contents is first = rw is (inr (refl, inr (inr (_, first))))
open_stops opening.OutOfMemory why contents is first = inl is

-- What a run has written when it stops.

pub err_so : {T : Type 0} (r : Result T Stop) (why : Stop) (A B : Type 0) → IsErrAnd r (λ e. e ≡ why) → (A → B) → IsStop why A → IfErr r (λ e. IsStop e B)
err_so (Ok x) why A B is f stops = tt
err_so (Err e) why A B is f stops = rw is (stop_for why A B f stops)

pub come_some : {D : Type 0} (g : Ghosts D) (r : Reclaims) (h : History) (lines first others : List CommandLine) (old new : Option (List ℕ)) (store : Store) (before now : D)
    → first ++ others ≡ lines → HasCome g r h first old new store before now → HasComeSome r h lines old new
come_some g r h lines first others old new store before now is come = record {
  first = first;
  others = others;
  lines_are = is;
  text = come.text;
  written = come.written;
  last = come.last;
  answers = come.answers;
  legal = come.stands.still.represents.legal;
}

pub written_some : (r : Reclaims) (lines : List CommandLine) (old new : Option (List ℕ)) (contents : List (List ℕ)) (store : Store) (o : IsOpened contents store)
    → HasComeSome r (at_opening contents o.ledger) lines old new → HasWrittenSome r lines old new contents
written_some r lines old new contents store o come = record {
  text = come.text;
  answered = inr (record {
    first = come.first;
    others = come.others;
    lines_are = come.lines_are;
    ledger = o.ledger;
    reads = o.reads;
    last = come.last;
    answers = come.answers;
    legal = come.legal;
  });
  written = come.written;
}

pub none_written : (r : Reclaims) (lines : List CommandLine) (old : Option (List ℕ)) (contents : List (List ℕ)) → HasWrittenSome r lines old old contents
none_written r lines old contents = record { text = []; answered = inl refl; written = same old }

-- a fault of a device behind other calls
pub risen_behind : {D : Type 0} (g : Ghosts D) (old mid new : D) → g.fault_count new ≤ most_faults → IsSameDevice g old mid
    → HasRisen (g.fault_count mid) (g.fault_count new) → HasRisen (g.fault_count old) (g.fault_count new)
risen_behind g old mid new fits same_device risen =
    risen_over (g.fault_count old) (g.fault_count mid) (g.fault_count new) (g.fault_count new) same_device.faults risen (omega arith) fits

pub broken_behind : {D : Type 0} (g : Ghosts D) (failed : Bool) (contents : List (List ℕ)) (old mid new : D) → g.fault_count new ≤ most_faults → IsSameDevice g old mid
    → IsBroken failed (g.fault_count mid) (g.fault_count new) contents → IsBroken failed (g.fault_count old) (g.fault_count new) contents
broken_behind g failed contents old mid new fits same_device (inl broken) = inl broken
broken_behind g failed contents old mid new fits same_device (inr (inl risen)) = inr (inl (risen_behind g old mid new fits same_device risen))
broken_behind g failed contents old mid new fits same_device (inr (inr none)) = inr (inr none)

-- a write that fails
pub broken_write : {T : Type 0} (r : Result T Stop) (fault : Fault) (failed : Bool) (C : Type 0) → IsErrAnd r (λ e. e ≡ stop_of fault) → fault ≡ write_fault.Write
    → failed ≡ true → IfErr r (λ e. IsStop e ((failed ≡ true) ⊎ C))
broken_write (Ok x) fault failed C is write broken = tt
broken_write (Err e) fault failed C is write broken = rw (is, write) (inr (refl, inl broken))

pub no_fault : (failed : Bool) → failed ≡ false → failed ≡ true → ⊥
no_fault failed fine broken = absurd (let no : false ≡ true = sym fine ∙ broken in cc)

-- what is said of a cause is said of an answer that gives it
pub kind_so : {T : Type 0} (r : Result T Stop) (why : Stop) (P : Stop → Type 0) → IsErrAnd r (λ e. e ≡ why) → P why → IfErr r P
kind_so (Ok x) why P is told = tt
kind_so (Err e) why P is told = subst P (sym is) told

-- and of each that says it, what follows from it
pub kind_for : {T : Type 0} (r : Result T Stop) (P Q : Stop → Type 0) → ((why : Stop) → P why → Q why) → IfErr r P → IfErr r Q
kind_for (Ok x) P Q f told = tt
kind_for (Err e) P Q f told = f e told

-- the end of a save had a fault, behind a flush that was done
pub end_stops : {D : Type 0} (g : Ghosts D) (run : Execution) (old mid new : D) (why : Stop) → g.fault_count new ≤ most_faults → IsSameDevice g old mid → IsFlushed run
    → IsOfDisk (g.fault_count mid) (g.fault_count new) why → TellsWhyNotSaved g run old new why
end_stops g run old mid new why fits same_device flushed (inl none) = inl none
end_stops g run old mid new why fits same_device flushed (inr risen) = inr (inr (risen.0, risen_behind g old mid new fits same_device risen.1, flushed))
