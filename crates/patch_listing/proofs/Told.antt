-- What was written of a store that was opened.
use Rattle.std.proofs.Common.{ℕ, ◌++◌, List, [], Option, subst}
use Rattle.std.specs.Prelude.{Result, Ok, Err, OnOk}
use Rattle.std.specs.Io.KnownBytes.{Appends}
use Rattle.std.proofs.lemmas.List.{append-nil}
use Rattle.patch_history.specs.History.{History, ledger_of}
use Rattle.patch_recovery.specs.Ledger.{map_of}
use Rattle.patch_store.specs.Meaning.{Store, IsStoreOf}
use Rattle.patch_store.specs.Opening.{IsOpened, at_opening}
use Rattle.patch_replay.specs.Growing.{twice}
use Rattle.patch_disks.specs.declared.endings.Stop.{Stop}
use Rattle.patch_disks.specs.Ending.{IsDoneBehind}
use Rattle.patch_listing.specs.declared.listing.Wanted.{Wanted}
use Rattle.patch_listing.specs.declared.statting.Detail.{Detail}
use Rattle.patch_listing.specs.Listing.{WritesLines, HasListed}
use Rattle.patch_listing.specs.Statting.{detail_text, HasTold}

-- no more is written behind
done_behind : (old mid new : Option (List ℕ)) (text : List ℕ) → Appends old mid text → Appends mid new [] → Appends old new text
done_behind old mid new text written none = subst (Appends old new) (append-nil text) (twice old mid new text [] written none)

-- A list.

pub list_so : {T E : Type 0} (r : Result T E) (w : Wanted) (store : Store) (contents : List (List ℕ)) (old new : Option (List ℕ)) → IsOpened contents store
    → ((h : History) → IsStoreOf store h → OnOk r (WritesLines w (map_of (ledger_of h)) old new)) → OnOk r (HasListed w contents old new)
list_so (Ok x) w store contents old new opened lines =
    record { ledger = opened.ledger; reads = opened.reads; lines = lines (at_opening contents opened.ledger) opened.represents }
list_so (Err e) w store contents old new opened lines = tt

listed_behind : (w : Wanted) (contents : List (List ℕ)) (old mid new : Option (List ℕ)) → HasListed w contents old mid → Appends mid new [] → HasListed w contents old new
listed_behind w contents old mid new has none = record {
  ledger = has.ledger;
  reads = has.reads;
  lines = record { listed = has.lines.listed; are = has.lines.are; written = done_behind old mid new _ has.lines.written none };
}

pub list_done : (r : Result (Unit {0}) Stop) (w : Wanted) (contents : List (List ℕ)) (old mid new : Option (List ℕ)) → OnOk r (HasListed w contents old mid)
    → IsDoneBehind r mid new → HasListed w contents old new
list_done (Ok x) w contents old mid new has none = listed_behind w contents old mid new has none
list_done (Err e) w contents old mid new has none = absurd none

pub list_some : {T E : Type 0} (r : Result T E) (w : Wanted) (contents : List (List ℕ)) (old new : Option (List ℕ)) → OnOk r (HasListed w contents old new)
    → OnOk r ((contents : List (List ℕ)) × HasListed w contents old new)
list_some (Ok x) w contents old new has = (contents, has)
list_some (Err e) w contents old new has = tt

pub list_some_done : (r : Result (Unit {0}) Stop) (w : Wanted) (old mid new : Option (List ℕ)) → OnOk r ((contents : List (List ℕ)) × HasListed w contents old mid)
    → IsDoneBehind r mid new → (contents : List (List ℕ)) × HasListed w contents old new
list_some_done (Ok x) w old mid new has none = (has.0, listed_behind w has.0 old mid new has.1 none)
list_some_done (Err e) w old mid new has none = absurd none

-- How full a store is.

-- the numbers were written, and the picture behind them
pub pictured : {T E : Type 0} (r : Result T E) (old mid new : Option (List ℕ)) (numbers picture : List ℕ) → Appends old mid numbers → OnOk r (Appends mid new picture)
    → OnOk r (Appends old new (numbers ++ picture))
pictured (Ok x) old mid new numbers picture first then = twice old mid new numbers picture first then
pictured (Err e) old mid new numbers picture first then = tt

pub told_so : {T E : Type 0} (r : Result T E) (detail : Detail) (store : Store) (contents : List (List ℕ)) (old new : Option (List ℕ)) → IsOpened contents store
    → ((h : History) → IsStoreOf store h → OnOk r (Appends old new (detail_text detail h))) → OnOk r (HasTold detail contents old new)
told_so (Ok x) detail store contents old new opened written =
    record { ledger = opened.ledger; reads = opened.reads; written = written (at_opening contents opened.ledger) opened.represents }
told_so (Err e) detail store contents old new opened written = tt

told_behind : (detail : Detail) (contents : List (List ℕ)) (old mid new : Option (List ℕ)) → HasTold detail contents old mid → Appends mid new []
    → HasTold detail contents old new
told_behind detail contents old mid new has none =
    record { ledger = has.ledger; reads = has.reads; written = done_behind old mid new _ has.written none }

pub told_done : (r : Result (Unit {0}) Stop) (detail : Detail) (contents : List (List ℕ)) (old mid new : Option (List ℕ)) → OnOk r (HasTold detail contents old mid)
    → IsDoneBehind r mid new → HasTold detail contents old new
told_done (Ok x) detail contents old mid new has none = told_behind detail contents old mid new has none
told_done (Err e) detail contents old mid new has none = absurd none

pub told_some : {T E : Type 0} (r : Result T E) (detail : Detail) (contents : List (List ℕ)) (old new : Option (List ℕ)) → OnOk r (HasTold detail contents old new)
    → OnOk r ((contents : List (List ℕ)) × HasTold detail contents old new)
told_some (Ok x) detail contents old new has = (contents, has)
told_some (Err e) detail contents old new has = tt

pub told_some_done : (r : Result (Unit {0}) Stop) (detail : Detail) (old mid new : Option (List ℕ)) → OnOk r ((contents : List (List ℕ)) × HasTold detail contents old mid)
    → IsDoneBehind r mid new → (contents : List (List ℕ)) × HasTold detail contents old new
told_some_done (Ok x) detail old mid new has none = (has.0, told_behind detail has.0 old mid new has.1 none)
told_some_done (Err e) detail old mid new has none = absurd none
