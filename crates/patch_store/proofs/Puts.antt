-- The answers of a put.
use Rattle.std.proofs.Common.{◌≡◌, ℕ, ◌∙◌, inl, inr, List, [], length, refl, sym, ap, subst}
use Rattle.std.specs.Prelude.{Option, Some, None, option_map, unwrap_or}
use Rattle.patch_model.specs.declared.refusals.RefusalKind.TheVariants as kind
use Rattle.patch_model.specs.declared.refusals.Refusal.{Refusal}
use Rattle.patch_model.specs.Refusing.{bare}
use Rattle.patch_model.specs.Execution.{followed_by}
use Rattle.patch_model.specs.State.{entries_of}
use Rattle.patch_model.specs.Step.{Step}
use Rattle.patch_cache.specs.Meaning.{IsCacheOf}
use Rattle.patch_frame.specs.Frame.{Content, spelling, length_of}
use Rattle.patch_recovery.specs.Change.{Made}
use Rattle.patch_plans.specs.Meaning.{AreExtentsOf}
use Rattle.patch_plans.specs.Writing.{named_plan, with_patches}
use Rattle.patch_history.specs.Command.{Reply, Put, Done, Refused, unless, is_refused}
use Rattle.patch_history.specs.Choosing.{slot_for, extent_for_put}
use Rattle.patch_history.specs.Laws.{HistoriesExtend, StandingsRun, StandingsAgree, ExtentsAreKept}
use Rattle.patch_history.specs.Planning.{frame_plan, put_plan}
use Rattle.patch_history.specs.Shelf.{Shelf}
use Rattle.patch_history.specs.StoreState.{Standing, made_by, creates, plan_of}
use Rattle.patch_history.specs.Steps.{framed, BegunAppendsAreCuts}
use Rattle.patch_history.specs.Refusing.{why_not_put}
use Rattle.patch_history.specs.History.{History, Call, IsRight, IsWhole, IsCut, after_event, execution_of, standing_of}
use Rattle.patch_store.specs.Meaning.{Store, IsStoreOf, HasAnswered}
use Rattle.patch_store.specs.Framing.{framing, IsAsked, StandsBehind, IsFramed, IsFramedInPart}
use Rattle.patch_store.specs.Putting.{IsTarget}
use Rattle.patch_store.proofs.Framed.{none_so}
use Rattle.patch_store.proofs.Gaining.{gained, refused, right_caused}

-- one that is refused for a cause
pub refused_put : HistoriesExtend → (h : History) (writer : ℕ) (key value : List ℕ) (cause : Refusal) (old : Store) → IsStoreOf old h
    → why_not_put (standing_of h) key value ≡ Some cause → HasAnswered h writer (Put key value) (Refused cause) old old
refused_put extends h writer key value cause old was is =
    refused extends h writer (Put key value) cause old old was
    (right_caused (standing_of h) writer (Put key value) (why_not_put (standing_of h) key value) cause Done refl is) refl

-- the plan where there is a slot or not
abbrev placed_plan : Shelf → ℕ → Content → Option ℕ → Option (List Made)
placed_plan s n c slot = elim slot [
  | None ↦ None
  | Some at ↦ option_map (λ e. frame_plan s n e at c) (extent_for_put s (length_of c))
]

-- What the laws say of a store that represents the history, and of the put's target there.
pub record IsPutOf (h : History) (key value : List ℕ) (slot extent : ℕ) (old : Store) : Type 0 where
  pub extends : HistoriesExtend
  pub runs : StandingsRun
  pub agree : StandingsAgree
  pub kept : ExtentsAreKept
  pub no_cause : why_not_put (standing_of h) key value ≡ None
  pub target : IsTarget old.shelf key value slot extent
  pub was : IsStoreOf old h

module _ (h : History) (writer : ℕ) (key value : List ℕ) (slot extent : ℕ) (old : Store) (is : IsPutOf h key value slot extent old) where
  abbrev st : Standing
  st = standing_of h

  abbrev content : Content
  content = record { key = key; value = value }

  same_plan : plan_of st writer (Put key value) ≡ framed (framing st (Some writer) slot extent content)
  same_plan =
      let n = made_by st in
      let at : slot_for st.shelf key ≡ Some slot = ap (λ s. slot_for s key) (sym is.was.shelf_is) ∙ is.target.slot_is in
      let to : extent_for_put st.shelf (length_of content) ≡ Some extent = ap (λ s. extent_for_put s (length_of content)) (sym is.was.shelf_is) ∙ is.target.extent_is in
      let plan : put_plan st.shelf n content ≡ Some (frame_plan st.shelf n extent slot content) =
      ap (placed_plan st.shelf n content) at ∙ ap (option_map (λ e. frame_plan st.shelf n e slot content)) to in
      ap (λ p. named_plan st.groups (Some writer) n (unwrap_or p [])) plan

  -- the store is asked for the frame
  pub asks_so : (frame : List ℕ) → frame ≡ spelling content → IsAsked st content key frame old
  asks_so frame spelled = record {
    setting_is = record {
      cache_is = subst (IsCacheOf old.cache) (sym (is.runs h)) is.was.cache_is;
      represents = subst (AreExtentsOf old.shelf.extents) (sym (is.runs h))
          (subst (λ (s : Shelf). AreExtentsOf s.extents (execution_of h)) (sym is.was.shelf_is) (is.kept h is.was.legal));
    };
    groups_are = is.was.groups_are;
    shelf_is = is.was.shelf_is;
    counted = ap (λ run. length (entries_of run)) (is.runs h) ∙ sym (is.agree h is.was.legal).made;
    key_is = refl;
    frame_is = spelled;
  }

  answered_put : (reply : Reply) (steps : List Step) (new : Store) → IsRight st (Call writer (Put key value) reply steps)
      → with_patches st.groups (Some writer) (made_by st) (creates steps) ≡ (after_event st (Call writer (Put key value) reply steps)).groups
      → StandsBehind st (Some writer) (framed (framing st (Some writer) slot extent content)) steps old new
      → HasAnswered h writer (Put key value) reply old new
  answered_put reply steps new right joined stands =
      let behind = subst (λ p. StandsBehind st (Some writer) p steps old new) (sym same_plan) stands in
      record {
        steps = steps;
        gained = gained is.extends h (Call writer (Put key value) reply steps) old new is.was right
            (subst (λ run. IsCacheOf new.cache (followed_by run steps)) (is.runs h) behind.cache_is) (behind.groups_are ∙ joined) behind.shelf_is behind.trace_is
            behind.merged;
      }

  -- one that is done
  pub put_so : (new : Store) → IsFramed (framing st (Some writer) slot extent content) old new → HasAnswered h writer (Put key value) Done old new
  put_so new all =
      answered_put Done all.steps new
      (inl (sym (ap (λ cause. unless cause Done) is.no_cause), subst (λ p. IsWhole st p all.steps) (sym same_plan) all.whole)) refl all.stands

  -- one that is given up
  pub given_up_so : (new : Store) → IsFramedInPart (framing st (Some writer) slot extent content) old new
      → HasAnswered h writer (Put key value) (Refused (bare kind.OutOfMemory)) old new
  given_up_so new some =
      answered_put (Refused (bare kind.OutOfMemory)) some.steps new
      (inr (record {
        takes = refl;
        no_cause = ap (λ cause. is_refused (unless cause Done)) is.no_cause;
        reply_is = refl;
        cut = subst (λ p. IsCut st p some.steps) (sym same_plan) some.cut;
      })) refl some.stands

  -- before its first patch
  pub none_put : BegunAppendsAreCuts → HasAnswered h writer (Put key value) (Refused (bare kind.OutOfMemory)) old old
  none_put cuts = given_up_so old (none_so (Some writer) slot extent key (spelling content) st content old (asks_so (spelling content) refl) cuts)
