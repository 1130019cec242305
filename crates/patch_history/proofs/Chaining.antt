-- The groups before one are those to which a chain of a history's orders leads.
use Rattle.std.proofs.Common.{◌≡◌, ℕ, zero, suc, ◌+◌, ◌∙◌, inl, inr, true, false, List, [], ◌∷◌, ◌++◌, Option, Some, None, refl, sym, ap}
use Rattle.std.proofs.Common.{subst, append-nil, append_assoc}
use Rattle.std.specs.Prelude.{◌==◌, fold, flat_map}
use Rattle.std.proofs.lemmas.Bool.{cases_Bool, eq-eqb, or_left}
use Rattle.patch_model.specs.Entry.{is_among}
use Rattle.patch_model.specs.Member.{In-from_Contains, list_any-from}
use Rattle.patch_model.specs.Step.{Step}
use Rattle.patch_plans.specs.Groups.{Groups, fresh, begun, engaged, disengaged, closed, with_patch, why_not_ordered}
use Rattle.patch_plans.specs.Chaining.{AreOrdersOf, alike, same, one_more, engaged_alike, closed_alike, entered_alike, none_ordered}
use Rattle.patch_plans.specs.Ordering.{get_or-push}
use Rattle.patch_plans.specs.Writing.{with_patches}
use Rattle.patch_history.specs.Command.{Command, Reply, Put, Get, Delete, Reclaim, Upgrade, Group, Engage, Disengage, Depend}
use Rattle.patch_history.specs.Command.{CloseGroup, Pending, Done, is_refused}
use Rattle.patch_history.specs.StoreState.{Standing, at_opening, made_by, maker_of, plan_of, creates, groups_after}
use Rattle.patch_history.specs.Refusing.{reply_of}
use Rattle.patch_history.specs.History.{Event, Call, Moved, IsRight, AreRight, IsWhole, after_event}
use Rattle.patch_history.specs.Laws.{GroupsAreKept}
use Rattle.patch_history.specs.Chained.{order_of, order_in, GroupsAreChained, ChainsAreKept}
use Rattle.patch_history.proofs.Judged.{no_cause}

patch_ordered : (orders : List (ℕ × ℕ)) (gs : Groups) (w : Option ℕ) (n : ℕ) → AreOrdersOf orders gs
    → AreOrdersOf orders (with_patch gs w n)
patch_ordered orders gs None n o = o
patch_ordered orders gs (Some writer) n o = alike orders gs (with_patch gs (Some writer) n) (entered_alike gs writer n) o

patches_ordered : (orders : List (ℕ × ℕ)) (gs : Groups) (w : Option ℕ) (n count : ℕ) → AreOrdersOf orders gs
    → AreOrdersOf orders (with_patches gs w n count)
patches_ordered orders gs w n zero o = o
patches_ordered orders gs w n (suc count) o =
    patches_ordered orders (with_patch gs w n) w (n + 1) count (patch_ordered orders gs w n o)

-- with an order of none more
no_more : (orders : List (ℕ × ℕ)) (gs : Groups) → AreOrdersOf orders gs → AreOrdersOf (orders ++ []) gs
no_more orders gs o = subst (λ os. AreOrdersOf os gs) (sym (append-nil orders)) o

abbrev joined : Standing → ℕ → Command → List Step → Groups
joined st writer command steps = with_patches st.groups (maker_of writer command) (made_by st) (creates steps)

-- what each call that is accepted makes of the orders
call_ordered : (orders : List (ℕ × ℕ)) (st : Standing) (writer : ℕ) (command : Command) (steps : List Step)
    → is_refused (reply_of st writer command) ≡ false → IsWhole st (plan_of st writer command) steps
    → AreOrdersOf orders (joined st writer command steps)
    → AreOrdersOf (orders ++ order_of command) (groups_after (joined st writer command steps) writer command)
call_ordered orders st writer (Put key value) steps fine whole o = no_more orders _ o
call_ordered orders st writer (Get key) steps fine whole o = no_more orders _ o
call_ordered orders st writer (Delete key) steps fine whole o = no_more orders _ o
call_ordered orders st writer (Reclaim extent) steps fine whole o = no_more orders _ o
call_ordered orders st writer Upgrade steps fine whole o = no_more orders _ o
call_ordered orders st writer (Pending group) steps fine whole o = no_more orders _ o
call_ordered orders st writer Group steps fine whole o =
    let gs = joined st writer Group steps in
    no_more orders (begun gs) (alike orders gs (begun gs) (λ g. same _ _ (get_or-push gs.groups g fresh)) o)
call_ordered orders st writer (Engage group) steps fine whole o =
    let gs = joined st writer (Engage group) steps in
    no_more orders (engaged gs writer group) (alike orders gs (engaged gs writer group) (engaged_alike gs writer group) o)
call_ordered orders st writer (Disengage group) steps fine whole o =
    let gs = joined st writer (Disengage group) steps in
    no_more orders (disengaged gs writer group) (alike orders gs (disengaged gs writer group) (λ g. same _ _ refl) o)
call_ordered orders st writer (Depend group on) steps fine whole o =
    one_more orders (joined st writer (Depend group on) steps) group on
    (ap (λ s. why_not_ordered (joined st writer (Depend group on) s) group on) whole.1 ∙ no_cause _ Done fine) o
call_ordered orders st writer (CloseGroup group) steps fine whole o =
    let gs = joined st writer (CloseGroup group) steps in
    no_more orders (closed gs group) (alike orders gs (closed gs group) (closed_alike gs group) o)

refused_ordered : (orders : List (ℕ × ℕ)) (st : Standing) (writer : ℕ) (command : Command) (reply : Reply) (steps : List Step)
    → is_refused reply ≡ true → AreOrdersOf orders st.groups
    → AreOrdersOf (orders ++ order_in (Call writer command reply steps)) (after_event st (Call writer command reply steps)).groups
refused_ordered orders st writer command reply steps lost o =
    rw lost (no_more orders _ (patches_ordered orders st.groups (maker_of writer command) (made_by st) (creates steps) o))

event_ordered : (orders : List (ℕ × ℕ)) (st : Standing) (event : Event) → AreOrdersOf orders st.groups → IsRight st event
    → AreOrdersOf (orders ++ order_in event) (after_event st event).groups
event_ordered orders st (Call writer command reply steps) o (inl answered) = elim (cases_Bool (is_refused reply)) [
  | inl u ↦ refused_ordered orders st writer command reply steps u o
  | inr u ↦ (
      let made = answered.1 in
      let whole : IsWhole st (plan_of st writer command) steps = rw u at made in
      rw u (call_ordered orders st writer command steps (ap is_refused (sym answered.0) ∙ u) whole
      (patches_ordered orders st.groups (maker_of writer command) (made_by st) (creates steps) o)))
]
event_ordered orders st (Call writer command reply steps) o (inr lacked) =
    refused_ordered orders st writer command reply steps (ap is_refused lacked.reply_is) o
event_ordered orders st (Moved step) o right = no_more orders st.groups o

events_ordered : (orders : List (ℕ × ℕ)) (st : Standing) (events : List Event) → AreOrdersOf orders st.groups → AreRight st events
    → AreOrdersOf (orders ++ flat_map order_in events) (fold after_event st events).groups
events_ordered orders st [] o right = no_more orders st.groups o
events_ordered orders st (event ∷ events) o right =
    subst (λ os. AreOrdersOf os (fold after_event (after_event st event) events).groups)
    (append_assoc orders (order_in event) (flat_map order_in events))
    (events_ordered (orders ++ order_in event) (after_event st event) events (event_ordered orders st event o right.0) right.1)

pub groups_are_chained : GroupsAreChained
groups_are_chained h q p l =
    let o = events_ordered [] (at_opening h.opening h.first) h.events none_ordered l.right in (o.to q p, o.from q p)

pub chains_are_kept : GroupsAreKept → ChainsAreKept
chains_are_kept kept h set q p e f l closed chain g held =
    let named = (kept h l).names q p f.patch.no e g.made g.later ((groups_are_chained h q p l).1 chain) g.earlier in
    let inside = In-from_Contains e.patch.after f.patch.no named in
    let t : is_among e.patch.after f.patch.no ≡ true = list_any-from (λ m. m == f.patch.no) e.patch.after f.patch.no inside (eq-eqb _ _ refl) in
    closed e f g.made g.other_made held (or_left _ _ t)
