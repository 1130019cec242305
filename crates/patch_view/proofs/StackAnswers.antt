-- What the calls of a stack, of which each says what it makes of the records, tell of the history that these represent.
use Rattle.std.proofs.Common.{◌≡◌, ℕ, true, List, [], Option, refl, Result, Ok, Err}
use Rattle.std.specs.Prelude.{Some, None}
use Rattle.patch_model.specs.declared.patches.Mark.TheVariants.{Flight, Durable}
use Rattle.patch_model.specs.Entry.{Entry, is_memory}
use Rattle.patch_model.specs.History.{History}
use Rattle.patch_stacks.specs.declared.refusals.TakeRefusal.{TakeRefusal}
use Rattle.patch_stacks.specs.declared.refusals.TakeRefusal.TheVariants.{Unknown, InFlight, Hard, AlreadyTaken, DependentApplied}
use Rattle.patch_stacks.specs.declared.refusals.PutBackRefusal.{PutBackRefusal}
use Rattle.patch_stacks.specs.declared.refusals.PutBackRefusal.TheVariants.{NotTaken, DependencyTaken}
use Rattle.patch_stacks.specs.State.{Block, Joint, place_of, departed_at, landed_at, with_one_departed, with_one_landed}
use Rattle.patch_stacks.specs.Turns.{IsTakeOf, IsPutBackOf, RefusesPutBack}
use Rattle.patch_stacks.specs.Changes.{JoinsAt}
use Rattle.patch_view.specs.History.{MayLand, with_mark}
use Rattle.patch_view.specs.Meaning.{IsBlockOf}
use Rattle.patch_view.specs.Answers.{IsPatch, IsTakeAnswer, IsPutBackAnswer}
use Rattle.patch_view.specs.Changes.{JoinsBy}
use Rattle.patch_model.specs.Refusing.{why_not_put_back}
use Rattle.patch_stacks.specs.Refusal.{put_back_cause}
use Rattle.patch_view.proofs.Answering.{why_unknown, why_in_flight, why_hard, why_taken, why_dependent, takes, why_nowhere, why_applied, why_dependency, puts_back}
use Rattle.patch_view.proofs.Marking.{departs_named, placed_memory, lands_named, placed_flight}
use Rattle.patch_view.proofs.Gathering.{made-one-joins, joint-joins, joint-none}
use Rattle.patch_stacks.proofs.Joints.{joint-within}

pub take_answers : {X : Type 0} (b new : Block) (number : ℕ) (result : Result X TakeRefusal) → IsTakeOf b number new result
    → (h : History) (taken : List ℕ) → IsBlockOf b taken h → IsTakeAnswer h taken number new result
take_answers b new number (Ok x) t h taken r =
    let e = t.1.is in
    let s = t.1.stands in
    rw e (takes b taken h number t.0 r s.place s.memory s.soft t.1.applied t.1.free)
take_answers b new number (Err Unknown) none h taken r = why_unknown b taken h number r none
take_answers b new number (Err InFlight) t h taken r = why_in_flight b taken h number t.0 r t.1 t.2
take_answers b new number (Err Hard) t h taken r = why_hard b taken h number t.0 r t.1 t.2 t.3
take_answers b new number (Err AlreadyTaken) t h taken r = why_taken b taken h number t.0 r t.1.place t.1.memory t.1.soft t.2
take_answers b new number (Err (DependentApplied n)) t h taken r = why_dependent b taken h number t.0 n r t.1.place t.1.memory t.1.soft t.2 t.3

-- where the class of a number isn't taken, or has no place, it is not to be put back
not_taken : (b : Block) (number : ℕ) → RefusesPutBack b number NotTaken → (h : History) (taken : List ℕ) → IsBlockOf b taken h
    → why_not_put_back h taken number ≡ Some (put_back_cause NotTaken)
not_taken b number off h taken r = by-place (place_of b number) refl
  where
    by-place : (o : Option ℕ) → place_of b number ≡ o → why_not_put_back h taken number ≡ Some (put_back_cause NotTaken)
    by-place None is = why_nowhere b taken h number r is
    by-place (Some at) is = why_applied b taken h number at r is (off at is)

pub put_back_answers : {X : Type 0} (b new : Block) (number : ℕ) (result : Result X PutBackRefusal) → IsPutBackOf b number new result
    → (h : History) (taken : List ℕ) → IsBlockOf b taken h → IsPutBackAnswer h taken number new result
put_back_answers b new number (Ok x) t h taken r =
    let e = t.1.is in
    rw e (puts_back b taken h number t.0 r t.1.place t.1.taken t.1.free)
put_back_answers b new number (Err NotTaken) off h taken r = not_taken b number off h taken r
put_back_answers b new number (Err (DependencyTaken n)) t h taken r = why_dependency b taken h number t.0 n r t.1 t.2 t.3

-- the class of a patch in memory departs
pub departs_one : (b : Block) (h : History) (number : ℕ) (e : Entry) → IsBlockOf b [] h → IsPatch h number e → is_memory e ≡ true
    → IsBlockOf (with_one_departed b number) [] (with_mark h Flight e.class)
departs_one b h number e r p m = by-place (place_of b number) refl
  where
    by-place : (o : Option ℕ) → place_of b number ≡ o → IsBlockOf (elim o [ Some at ↦ departed_at b at | None ↦ b ]) [] (with_mark h Flight e.class)
    by-place None is = absurd (placed_memory b h number e r is p m)
    by-place (Some at) is = departs_named b h number at e r is p

-- that of one in flight lands
pub lands_one : (b : Block) (h : History) (number : ℕ) (e : Entry) → IsBlockOf b [] h → IsPatch h number e → MayLand h e.class
    → IsBlockOf (with_one_landed b number) [] (with_mark h Durable e.class)
lands_one b h number e r p m = by-place (place_of b number) refl
  where
    by-place : (o : Option ℕ) → place_of b number ≡ o → IsBlockOf (elim o [ Some at ↦ landed_at b at | None ↦ b ]) [] (with_mark h Durable e.class)
    by-place None is = absurd (placed_flight b h number e r is p m)
    by-place (Some at) is = lands_named b h number at e r is p m

-- a joint that was put in place joins the classes of two patches
pub joins_by : (old new : Block) (joint : Option Joint) → JoinsAt old joint new → JoinsBy old joint new
joins_by old new None same h a b e f is r p q may = absurd (joint-none old h a b e f is r p q may)
joins_by old new (Some joint) joins h a b e f is r p q may =
    let within = joint-within old a b joint is in
    joint-joins old new h a b e f joint is r p q may (λ k s m.
    made-one-joins old new k joint.low joint.high _ is.2.is within s (joins is.0 within is.2) m)
