-- What is left of writers that were served, and faults with a device.
use Rattle.std.proofs.Common.{◌≡◌, ◌∙◌, ℕ, refl, sym, ap, subst, length}
use Rattle.std.specs.Prelude.{List, Option, Some, None, IfSome, Result, Ok, Err, IfOk, IfErr, OnOk, Vec, vec_len, sum_by}
use Rattle.std.specs.Result.{result_ok}
use Rattle.std.specs.declared.alloc.Global.{Global}
use Rattle.patch_device.specs.declared.devices.Device.{Ghosts}
use Rattle.patch_device.specs.SameDevice.{IsSameDevice, same_both}
use Rattle.patch_history.specs.declared.commands.Reply.{Reply as CodeReply}
use Rattle.patch_history.specs.Command.{Command}
use Rattle.patch_store.specs.Flushing.{HoldCached}
use Rattle.patch_shared.specs.declared.faults.Cause.{Cause}
use Rattle.patch_shared.specs.declared.faults.Cause.TheVariants as cause
use Rattle.patch_shared.specs.declared.faults.ServeFault.{ServeFault}
use Rattle.patch_shared.specs.declared.serving.Finished.{Finished}
use Rattle.patch_shared.specs.Books.{Book, IsKept, run_of}
use Rattle.patch_shared.specs.Conversations.{AreTold, IsSettled, replies_in}
use Rattle.patch_shared.specs.Serving.{IsFaultWith, IsGivenBack, IsBare, IsServed, StillLasts, book_of}
use Rattle.patch_shared.proofs.Resting.{rests_later, lasts_both}

-- what holds of the result by another fact of it
pub also : {T E : Type 0} → (P Q : T → Type 0) (r : Result T E) → ((x : T) → P x → Q x) → IfOk r P → IfOk r Q
also P Q (Ok x) f h = f x h
also P Q (Err e) f h = tt

-- by a fact of anything that is done too
pub both_if : {T E : Type 0} → (P : Type 0) (Q R : T → Type 0) (r : Result T E) → ((x : T) → P → Q x → R x) → OnOk r P → IfOk r Q → IfOk r R
both_if P Q R (Ok x) f h k = f x h k
both_if P Q R (Err e) f h k = tt

also_err : {T E : Type 0} → (P Q : E → Type 0) (r : Result T E) → ((x : E) → P x → Q x) → IfErr r P → IfErr r Q
also_err P Q (Ok x) f h = tt
also_err P Q (Err e) f h = f e h

-- and what holds of what is done, told of that
pub done_is : {T E : Type 0} (r : Result T E) (P : T → Type 0) (x : T) → Some x ≡ result_ok r → IfOk r P → P x
done_is (Ok y) P x is h = subst (λ o. IfSome o P) (sym is) h
done_is (Err e) P x is h = subst (λ o. IfSome o P) (sym is) tt

-- Faults.

-- a fault that was met with a device was met with what it was before too
given_back : {D : Type 0} (g : Ghosts D) (first mid : D) (why : Cause) (back : Option D) → IsSameDevice g first mid → IsGivenBack g mid why back → IsGivenBack g first why back
given_back g first mid (cause.DeviceGaveUp block) back same h =
    (h.0, h.1, same_both g first mid h.0 same h.2, rests_later g (cause.DeviceGaveUp block) first mid h.0 same h.3)
given_back g first mid cause.SyncFailed back same h = (h.0, h.1, same_both g first mid h.0 same h.2, rests_later g cause.SyncFailed first mid h.0 same h.3)
given_back g first mid cause.Disagreed back same h = h
given_back g first mid (cause.ReadBack block) back same h = h
given_back g first mid cause.NoThread back same h = h
given_back g first mid cause.OutOfMemory back same h = h

pub fault_before : {T D : Type 0} (g : Ghosts D) (first mid : D) (r : Result T (ServeFault D)) → IsSameDevice g first mid
    → IfErr r (IsFaultWith g mid) → IfErr r (IsFaultWith g first)
fault_before g first mid r same = also_err _ _ r (λ fault is. given_back g first mid fault.cause fault.device same is)

none_back : {D : Type 0} (g : Ghosts D) (first : D) (why : Cause) → IsBare why → IsGivenBack g first why None
none_back g first (cause.DeviceGaveUp block) bare = absurd bare
none_back g first cause.SyncFailed bare = absurd bare
none_back g first cause.Disagreed bare = refl
none_back g first (cause.ReadBack block) bare = refl
none_back g first cause.NoThread bare = refl
none_back g first cause.OutOfMemory bare = refl

-- with a cause of which the device is none no device comes back
pub fault_without : {D : Type 0} (g : Ghosts D) (first : D) (why : Cause) (fault : ServeFault D) → IsBare why
    → fault.cause ≡ why → fault.device ≡ None → IsGivenBack g first fault.cause fault.device
fault_without g first why fault bare is none =
    subst (λ w. IsGivenBack g first w fault.device) (sym is) (subst (IsGivenBack g first why) (sym none) (none_back g first why bare))

-- with want of memory none does
pub fault_of_memory : {D : Type 0} (g : Ghosts D) (first : D) (fault : ServeFault D) → fault.cause ≡ cause.OutOfMemory → fault.device ≡ None
    → IsGivenBack g first fault.cause fault.device
fault_of_memory g first fault is none = subst (λ w. IsGivenBack g first w fault.device) (sym is) none

-- What is left.

pub served_so : {D : Type 0} (g : Ghosts D) (book : Book) (device : D) (replies : Vec (Vec (CodeReply Global) Global) Global) (opening : List (List ℕ))
    (jobs : List (List Command)) (r : Result (Finished D) (ServeFault D)) → IfOk r (λ f. book_of f ≡ book) → IfOk r (λ f. f.replies ≡ replies)
    → (g.is_honest device → IfOk r (λ f. HoldCached (run_of book) (g.contents f.device))) → IfOk r (λ f. IsSameDevice g device f.device)
    → IfOk r (λ f. StillLasts g device f.device) → book.opening ≡ opening → IsKept book → AreTold book.calls jobs (replies_in replies.items) → length book.calls ≡ sum_by (λ list. vec_len list) replies.items
    → IsSettled (run_of book) → IfOk r (IsServed g device opening jobs)
served_so g book device replies opening jobs (Ok f) is same holds kind lasts on kept told all settled = record {
  opening_is = ap (λ (b : Book). b.opening) is ∙ on;
  kept = subst IsKept (sym is) kept;
  told = subst (λ (b : Book). AreTold b.calls jobs (replies_in f.replies.items)) (sym is)
      (subst (λ (rs : Vec (Vec (CodeReply Global) Global) Global). AreTold book.calls jobs (replies_in rs.items)) (sym same) told);
  all = ap (λ (b : Book). length b.calls) is ∙ all
      ∙ ap (λ (rs : Vec (Vec (CodeReply Global) Global) Global). sum_by (λ list. vec_len list) rs.items) (sym same);
  settled = subst (λ (b : Book). IsSettled (run_of b)) (sym is) settled;
  holds = λ honest. subst (λ (b : Book). HoldCached (run_of b) (g.contents f.device)) (sym is) (holds (kind.honesty.1 honest));
  same = kind;
  lasts = lasts;
}
served_so g book device replies opening jobs (Err fault) is same holds kind lasts on kept told all settled = tt

-- and of a device from before
pub served_before : {D : Type 0} (g : Ghosts D) (first mid : D) (opening : List (List ℕ)) (jobs : List (List Command)) (r : Result (Finished D) (ServeFault D))
    → IsSameDevice g first mid → StillLasts g first mid → IfOk r (IsServed g mid opening jobs) → IfOk r (IsServed g first opening jobs)
served_before g first mid opening jobs r same lasts = also _ _ r (λ f is. record {
  opening_is = is.opening_is;
  kept = is.kept;
  told = is.told;
  all = is.all;
  settled = is.settled;
  holds = is.holds;
  same = same_both g first mid f.device same is.same;
  lasts = lasts_both g first mid f.device same lasts is.lasts;
})
