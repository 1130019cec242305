-- The answers of the calls of groups.
use Rattle.std.proofs.Common.{◌≡◌, ℕ, ◌∙◌, inl, [], length, refl, sym, ap, subst}
use Rattle.std.specs.Prelude.{Result, Ok, Err, Some, None, IfOk, IfErr, OnOk, OnErr}
use Rattle.patch_model.specs.Execution.{Execution}
use Rattle.patch_model.specs.State.{entries_of}
use Rattle.patch_cache.specs.Meaning.{IsCacheOf}
use Rattle.patch_cache.specs.Refusals.{IsCause}
use Rattle.patch_group.specs.declared.refusals.GroupRefusal.{GroupRefusal}
use Rattle.patch_group.specs.Refusals.{group_cause}
use Rattle.patch_plans.specs.Groups.{Groups, why_not_begun, why_not_engaged, why_not_disengaged, why_not_ordered, why_not_closed, why_not_counted, pending, begun, engaged, disengaged, ordered, closed}
use Rattle.patch_plans.specs.Order.{AreGroupsOf}
use Rattle.patch_history.specs.Command.{Command, Group, Engage, Disengage, Depend, CloseGroup, Pending, Done, GroupMade, Count, unless}
use Rattle.patch_history.specs.Laws.{HistoriesExtend, StandingsRun, GroupsAreKept}
use Rattle.patch_history.specs.History.{History, Call, IsRight, after_event, execution_of, standing_of}
use Rattle.patch_store.specs.Meaning.{Store, IsStoreOf, HasAnswered}
use Rattle.patch_store.specs.Replies.{reply_to}
use Rattle.patch_store.proofs.Gaining.{answered, refused, right_refused, right_caused}

pub begun_so : HistoriesExtend → (h : History) (writer : ℕ) (old : Store) (gs : Groups) (result : Result ℕ GroupRefusal) → IsStoreOf old h
    → IfOk result (λ g. (why_not_begun old.groups ≡ None) × (g ≡ length old.groups.groups) × (gs ≡ begun old.groups))
    → IfErr result (λ r. IsCause (why_not_begun old.groups) (group_cause r)) → OnErr result (gs ≡ old.groups)
    → HasAnswered h writer Group (reply_to group_cause (λ g. GroupMade g) result) old (record old { groups = gs })
begun_so extends h writer old gs (Ok g) was made cause same =
    let is = was.groups_are in
    answered extends h writer Group (GroupMade g) old (record old { groups = gs }) was
    (inl (
      ap GroupMade (made.1 ∙ ap (λ s. length s.groups) is) ∙ sym (ap (λ c. unless c (GroupMade (length (standing_of h).groups.groups))) (ap why_not_begun (sym is) ∙ made.0)),
      ([], refl),
    ))
    refl (made.2 ∙ ap begun is) refl refl
begun_so extends h writer old gs (Err r) was made cause same =
    let is = was.groups_are in
    refused extends h writer Group (group_cause r) old (record old { groups = gs }) was
    (right_refused (standing_of h) writer Group (why_not_begun old.groups) (group_cause r) (GroupMade (length (standing_of h).groups.groups))
    (ap (λ s. unless (why_not_begun s) (GroupMade (length (standing_of h).groups.groups))) (sym is)) refl refl refl cause)
    (ap (λ g. record old { groups = g }) same)

-- a call that is answered Done, and leaves other groups
done_so : HistoriesExtend → (h : History) (writer : ℕ) (command : Command) (old : Store) (gs : Groups) → IsStoreOf old h
    → IsRight (standing_of h) (Call writer command Done []) → gs ≡ (after_event (standing_of h) (Call writer command Done [])).groups
    → HasAnswered h writer command Done old (record old { groups = gs })
done_so extends h writer command old gs was right groups = answered extends h writer command Done old (record old { groups = gs }) was right refl groups refl refl

pub engaged_so : HistoriesExtend → (h : History) (writer group : ℕ) (old : Store) (gs : Groups) (result : Result (Unit {0}) GroupRefusal) → IsStoreOf old h
    → OnOk result ((why_not_engaged old.groups writer group ≡ None) × (gs ≡ engaged old.groups writer group))
    → IfErr result (λ r. IsCause (why_not_engaged old.groups writer group) (group_cause r)) → OnErr result (gs ≡ old.groups)
    → HasAnswered h writer (Engage group) (reply_to group_cause (λ _. Done) result) old (record old { groups = gs })
engaged_so extends h writer group old gs (Ok x) was made cause same =
    let is = was.groups_are in
    done_so extends h writer (Engage group) old gs was
    (inl (sym (ap (λ c. unless c Done) (ap (λ s. why_not_engaged s writer group) (sym is) ∙ made.0)), ([], refl)))
    (made.1 ∙ ap (λ s. engaged s writer group) is)
engaged_so extends h writer group old gs (Err r) was made cause same =
    refused extends h writer (Engage group) (group_cause r) old (record old { groups = gs }) was
    (right_refused (standing_of h) writer (Engage group) (why_not_engaged old.groups writer group) (group_cause r) Done
    (ap (λ s. unless (why_not_engaged s writer group) Done) (sym was.groups_are)) refl refl refl cause)
    (ap (λ g. record old { groups = g }) same)

pub disengaged_so : HistoriesExtend → (h : History) (writer group : ℕ) (old : Store) (gs : Groups) (result : Result (Unit {0}) GroupRefusal) → IsStoreOf old h
    → OnOk result ((why_not_disengaged old.groups writer group ≡ None) × (gs ≡ disengaged old.groups writer group))
    → IfErr result (λ r. why_not_disengaged old.groups writer group ≡ Some (group_cause r)) → OnErr result (gs ≡ old.groups)
    → HasAnswered h writer (Disengage group) (reply_to group_cause (λ _. Done) result) old (record old { groups = gs })
disengaged_so extends h writer group old gs (Ok x) was made cause same =
    let is = was.groups_are in
    done_so extends h writer (Disengage group) old gs was
    (inl (sym (ap (λ c. unless c Done) (ap (λ s. why_not_disengaged s writer group) (sym is) ∙ made.0)), ([], refl)))
    (made.1 ∙ ap (λ s. disengaged s writer group) is)
disengaged_so extends h writer group old gs (Err r) was made cause same =
    refused extends h writer (Disengage group) (group_cause r) old (record old { groups = gs }) was
    (right_caused (standing_of h) writer (Disengage group) (why_not_disengaged old.groups writer group) (group_cause r) Done
    (ap (λ s. unless (why_not_disengaged s writer group) Done) (sym was.groups_are)) cause)
    (ap (λ g. record old { groups = g }) same)

pub ordered_so : HistoriesExtend → (h : History) (writer group on : ℕ) (old : Store) (gs : Groups) (result : Result (Unit {0}) GroupRefusal) → IsStoreOf old h
    → OnOk result ((why_not_ordered old.groups group on ≡ None) × (gs ≡ ordered old.groups group on))
    → IfErr result (λ r. IsCause (why_not_ordered old.groups group on) (group_cause r)) → OnErr result (gs ≡ old.groups)
    → HasAnswered h writer (Depend group on) (reply_to group_cause (λ _. Done) result) old (record old { groups = gs })
ordered_so extends h writer group on old gs (Ok x) was made cause same =
    let is = was.groups_are in
    done_so extends h writer (Depend group on) old gs was
    (inl (sym (ap (λ c. unless c Done) (ap (λ s. why_not_ordered s group on) (sym is) ∙ made.0)), ([], refl)))
    (made.1 ∙ ap (λ s. ordered s group on) is)
ordered_so extends h writer group on old gs (Err r) was made cause same =
    refused extends h writer (Depend group on) (group_cause r) old (record old { groups = gs }) was
    (right_refused (standing_of h) writer (Depend group on) (why_not_ordered old.groups group on) (group_cause r) Done
    (ap (λ s. unless (why_not_ordered s group on) Done) (sym was.groups_are)) refl refl refl cause)
    (ap (λ g. record old { groups = g }) same)

pub closed_so : HistoriesExtend → (h : History) (writer group : ℕ) (old : Store) (gs : Groups) (result : Result (Unit {0}) GroupRefusal) → IsStoreOf old h
    → OnOk result ((why_not_closed old.groups group ≡ None) × (gs ≡ closed old.groups group))
    → IfErr result (λ r. why_not_closed old.groups group ≡ Some (group_cause r)) → OnErr result (gs ≡ old.groups)
    → HasAnswered h writer (CloseGroup group) (reply_to group_cause (λ _. Done) result) old (record old { groups = gs })
closed_so extends h writer group old gs (Ok x) was made cause same =
    let is = was.groups_are in
    done_so extends h writer (CloseGroup group) old gs was
    (inl (sym (ap (λ c. unless c Done) (ap (λ s. why_not_closed s group) (sym is) ∙ made.0)), ([], refl)))
    (made.1 ∙ ap (λ s. closed s group) is)
closed_so extends h writer group old gs (Err r) was made cause same =
    refused extends h writer (CloseGroup group) (group_cause r) old (record old { groups = gs }) was
    (right_caused (standing_of h) writer (CloseGroup group) (why_not_closed old.groups group) (group_cause r) Done
    (ap (λ s. unless (why_not_closed s group) Done) (sym was.groups_are)) cause)
    (ap (λ g. record old { groups = g }) same)

pub counted_so : HistoriesExtend → StandingsRun → GroupsAreKept → (h : History) (writer group : ℕ) (old : Store) (result : Result ℕ GroupRefusal)
    → ((run : Execution) → IsCacheOf old.cache run → AreGroupsOf run old.groups → IfOk result (λ count. count ≡ pending (entries_of run) old.groups group))
    → OnOk result (why_not_counted old.groups group ≡ None) → IfErr result (λ r. why_not_counted old.groups group ≡ Some (group_cause r))
    → IsStoreOf old h → HasAnswered h writer (Pending group) (reply_to group_cause (λ count. Count count) result) old old
counted_so extends runs kept h writer group old (Ok count) counted known cause was =
    let is = was.groups_are in
    let st = standing_of h in
    let number : count ≡ pending (entries_of st.run) st.groups group =
    counted (execution_of h) was.cache_is (subst (AreGroupsOf (execution_of h)) (sym is) (kept h was.legal))
    ∙ ap (λ run. pending (entries_of run) old.groups group) (sym (runs h)) ∙ ap (λ s. pending (entries_of st.run) s group) is in
    answered extends h writer (Pending group) (Count count) old old was
    (inl (
      ap Count number ∙ sym (ap (λ c. unless c (Count (pending (entries_of st.run) st.groups group))) (ap (λ s. why_not_counted s group) (sym is) ∙ known)),
      ([], refl),
    ))
    refl is refl refl
counted_so extends runs kept h writer group old (Err r) counted known cause was =
    let st = standing_of h in
    refused extends h writer (Pending group) (group_cause r) old old was
    (right_caused st writer (Pending group) (why_not_counted old.groups group) (group_cause r) (Count (pending (entries_of st.run) st.groups group))
    (ap (λ s. unless (why_not_counted s group) (Count (pending (entries_of st.run) st.groups group))) (sym was.groups_are)) cause)
    refl
