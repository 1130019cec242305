-- How many groups a history has.
use Rattle.std.proofs.Common.{◌≡◌, ℕ, zero, suc, ◌+◌, ◌<◌, ◌≤◌, ◌∙◌, inl, inr, true, false, List, [], ◌∷◌, length, set, Option, Some, None, refl, sym, ap}
use Rattle.std.proofs.Common.{arith}
use Rattle.std.specs.Prelude.{fold, nat_le}
use Rattle.std.proofs.lemmas.Bool.{cases_Bool}
use Rattle.std.proofs.lemmas.Bool.Decides.{nat_tests}
use Rattle.std.proofs.lemmas.List.{length-set, length-append}
use Rattle.patch_model.specs.Step.{Step}
use Rattle.patch_plans.specs.declared.limits.TheConstants.{MAX_GROUPS}
use Rattle.patch_plans.specs.Groups.{Groups, Group as GroupValue, fresh, group_at, ordered, entered, engaged_by, with_patch, why_not_begun}
use Rattle.patch_plans.specs.Writing.{with_patches}
use Rattle.patch_history.specs.Command.{Command, Reply, Put, Get, Delete, Reclaim, Upgrade, Group, Engage, Disengage, Depend}
use Rattle.patch_history.specs.Command.{CloseGroup, Pending, GroupMade, is_refused}
use Rattle.patch_history.specs.StoreState.{Standing, at_opening, made_by, maker_of, creates, groups_after}
use Rattle.patch_history.specs.Refusing.{reply_of}
use Rattle.patch_history.specs.History.{Event, Call, Moved, IsRight, AreRight, after_event}
use Rattle.patch_history.specs.Laws.{GroupsAreFew}
use Rattle.patch_history.proofs.Judged.{no_cause}

abbrev count : Groups → ℕ
count gs = length gs.groups

-- No patch makes a group.

entered_count : (groups : List GroupValue) (names : List ℕ) (n : ℕ) → length (entered groups names n) ≡ length groups
entered_count groups [] n = refl
entered_count groups (g ∷ names) n = entered_count (set groups g _) names n ∙ length-set groups g _

patch_count : (gs : Groups) (w : Option ℕ) (n : ℕ) → count (with_patch gs w n) ≡ count gs
patch_count gs None n = refl
patch_count gs (Some writer) n = entered_count gs.groups (engaged_by gs writer) n

patches_count : (gs : Groups) (w : Option ℕ) (n more : ℕ) → count (with_patches gs w n more) ≡ count gs
patches_count gs w n zero = refl
patches_count gs w n (suc more) = patches_count (with_patch gs w n) w (n + 1) more ∙ patch_count gs w n

-- A call makes one where there is room.

room_left : (gs : Groups) → why_not_begun gs ≡ None → count gs < MAX_GROUPS
room_left gs none = elim (cases_Bool (nat_le MAX_GROUPS (count gs))) [
  | inl full ↦ absurd (let some = rw full at none in cc)
  | inr free ↦ grind (arith, nat_tests, free)
]

abbrev joined : Standing → ℕ → Command → List Step → Groups
joined st writer command steps = with_patches st.groups (maker_of writer command) (made_by st) (creates steps)

call_few : (st : Standing) (writer : ℕ) (command : Command) (steps : List Step) → is_refused (reply_of st writer command) ≡ false
    → count (joined st writer command steps) ≡ count st.groups → count st.groups ≤ MAX_GROUPS
    → count (groups_after (joined st writer command steps) writer command) ≤ MAX_GROUPS
call_few st writer (Put key value) steps fine same few = omega (arith, same, few)
call_few st writer (Get key) steps fine same few = omega (arith, same, few)
call_few st writer (Delete key) steps fine same few = omega (arith, same, few)
call_few st writer (Reclaim extent) steps fine same few = omega (arith, same, few)
call_few st writer Upgrade steps fine same few = omega (arith, same, few)
call_few st writer (Pending group) steps fine same few = omega (arith, same, few)
call_few st writer Group steps fine same few =
    let room = room_left st.groups (no_cause (why_not_begun st.groups) (GroupMade (count st.groups)) fine) in
    let more = length-append (joined st writer Group steps).groups (fresh ∷ []) in
    omega (arith, same, room, more)
call_few st writer (Engage group) steps fine same few =
    let gs = joined st writer (Engage group) steps in
    let kept = length-set gs.groups group (record (group_at gs group) { started = true }) in
    omega (arith, same, few, kept)
call_few st writer (Disengage group) steps fine same few = omega (arith, same, few)
call_few st writer (Depend group on) steps fine same few =
    let gs = joined st writer (Depend group on) steps in
    let kept : count (ordered gs group on) ≡ count gs = length-set _ on _ ∙ length-set gs.groups group _ in
    omega (arith, same, few, kept)
call_few st writer (CloseGroup group) steps fine same few =
    let gs = joined st writer (CloseGroup group) steps in
    let kept = length-set gs.groups group (record (group_at gs group) { closed = true }) in
    omega (arith, same, few, kept)

refused_few : (st : Standing) (writer : ℕ) (command : Command) (reply : Reply) (steps : List Step) → is_refused reply ≡ true
    → count st.groups ≤ MAX_GROUPS → count (after_event st (Call writer command reply steps)).groups ≤ MAX_GROUPS
refused_few st writer command reply steps lost few =
    let same = patches_count st.groups (maker_of writer command) (made_by st) (creates steps) in
    rw lost (omega (arith, same, few))

event_few : (st : Standing) (event : Event) → count st.groups ≤ MAX_GROUPS → IsRight st event
    → count (after_event st event).groups ≤ MAX_GROUPS
event_few st (Call writer command reply steps) few (inl answered) = elim (cases_Bool (is_refused reply)) [
  | inl u ↦ refused_few st writer command reply steps u few
  | inr u ↦ rw u (call_few st writer command steps (ap is_refused (sym answered.0) ∙ u)
      (patches_count st.groups (maker_of writer command) (made_by st) (creates steps)) few)
]
event_few st (Call writer command reply steps) few (inr lacked) =
    refused_few st writer command reply steps (ap is_refused lacked.reply_is) few
event_few st (Moved step) few right = few

events_few : (st : Standing) (events : List Event) → count st.groups ≤ MAX_GROUPS → AreRight st events
    → count (fold after_event st events).groups ≤ MAX_GROUPS
events_few st [] few right = few
events_few st (event ∷ events) few right = events_few (after_event st event) events (event_few st event few right.0) right.1

pub groups_are_few : GroupsAreFew
groups_are_few h l = events_few (at_opening h.opening h.first) h.events (omega arith) l.right
