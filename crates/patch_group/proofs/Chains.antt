-- The groups before one are those to which a chain of orders leads.
use Rattle.std.proofs.Common.{◌≡◌, ℕ, ◌⊎◌, ◌∙◌, inl, inr, false, List, [], ◌∷◌, ◌++◌, refl, sym, ap, subst, append-nil}
use Rattle.std.specs.Prelude.{if◌then◌else◌}
use Rattle.std.proofs.lemmas.Bool.{cases_Bool}
use Rattle.patch_model.specs.Execution.{Execution}
use Rattle.patch_plans.specs.Groups.{Groups, group_at, no_groups, fresh}
use Rattle.patch_plans.specs.Chaining.{AreOrdersOf, IsAlike, alike, same, one_more, engaged_alike, closed_alike, entered_alike, none_ordered}
use Rattle.patch_plans.specs.Ordering.{get_or-push}
use Rattle.patch_group.specs.Asks.{Ask, Answer, Plain, Patch, Group, Engage, Disengage, Depend, Close, Pending, GroupMade, Done, Count, Refused, is_refused, with_made, with_answer, changed, IsGroupAnswer, IsGroupGivenUp, run_after, groups_after, AreGroupAnswers, groups_after_all}
use Rattle.patch_cache.specs.Asks.{Answer as CacheAnswer}
use Rattle.patch_cache.specs.Asks as cache
use Rattle.patch_group.specs.Promise.{order_of, orders_after, BeforeIsAChain}
use Rattle.patch_group.proofs.Asking.{accepted, refusal}

-- no call but an order changes it
unordered : (orders : List (ℕ × ℕ)) (gs : Groups) (ask : Ask) (answer : Answer) → order_of ask ≡ [] → AreOrdersOf orders gs → ((g : ℕ) → IsAlike (group_at gs g) (group_at (changed gs ask answer) g))
    → AreOrdersOf (orders ++ order_of ask) (changed gs ask answer)
unordered orders gs ask answer none o at =
    subst (λ xs. AreOrdersOf xs (changed gs ask answer)) (sym (ap (λ xs. orders ++ xs) none ∙ append-nil orders)) (alike orders gs (changed gs ask answer) at o)

made_alike : (gs : Groups) (writer : ℕ) (answer : CacheAnswer) (g : ℕ) → IsAlike (group_at gs g) (group_at (with_made gs writer answer) g)
made_alike gs writer (cache.Made n) g = entered_alike gs writer n g
made_alike gs writer (cache.Merged name) g = same _ _ refl
made_alike gs writer (cache.Sent block numbers image) g = same _ _ refl
made_alike gs writer (cache.Landed block numbers) g = same _ _ refl
made_alike gs writer (cache.Seen without cached) g = same _ _ refl
made_alike gs writer (cache.Refused cause) g = same _ _ refl

answer_alike : (gs : Groups) (writer : ℕ) (answer : Answer) (g : ℕ) → IsAlike (group_at gs g) (group_at (with_answer gs writer answer) g)
answer_alike gs writer (Plain answer) g = made_alike gs writer answer g
answer_alike gs writer (GroupMade group) g = same _ _ refl
answer_alike gs writer Done g = same _ _ refl
answer_alike gs writer (Count count) g = same _ _ refl
answer_alike gs writer (Refused cause) g = same _ _ refl

change : (orders : List (ℕ × ℕ)) (run : Execution) (gs : Groups) (ask : Ask) (answer : Answer) → AreOrdersOf orders gs → IsGroupAnswer run gs ask answer ⊎ IsGroupGivenUp run gs ask answer
    → is_refused answer ≡ false → AreOrdersOf (orders ++ order_of ask) (changed gs ask answer)
change orders run gs (Plain ask) answer o h f = unordered orders gs (Plain ask) answer refl o (λ g. same _ _ refl)
change orders run gs (Patch writer block start bytes after undo) answer o h f = unordered orders gs (Patch writer block start bytes after undo) answer refl o (λ g. answer_alike gs writer answer g)
change orders run gs Group answer o h f = unordered orders gs Group answer refl o (λ g. same _ _ (get_or-push gs.groups g fresh))
change orders run gs (Engage writer group) answer o h f = unordered orders gs (Engage writer group) answer refl o (λ g. engaged_alike gs writer group g)
change orders run gs (Disengage writer group) answer o h f = unordered orders gs (Disengage writer group) answer refl o (λ g. same _ _ refl)
change orders run gs (Depend group on) answer o h f = elim h [ inl e ↦ one_more orders gs group on (accepted _ _ _ e f) o | inr e ↦ absurd (refusal _ _ e.0 f) ]
change orders run gs (Close group) answer o h f = unordered orders gs (Close group) answer refl o (λ g. closed_alike gs group g)
change orders run gs (Pending group) answer o h f = unordered orders gs (Pending group) answer refl o (λ g. same _ _ refl)

orders_keep : (orders : List (ℕ × ℕ)) (run : Execution) (gs : Groups) (asks : List Ask) (answers : List Answer) → AreOrdersOf orders gs → AreGroupAnswers run gs asks answers
    → AreOrdersOf (orders_after orders asks answers) (groups_after_all gs asks answers)
orders_keep orders run gs [] [] o h = o
orders_keep orders run gs [] (answer ∷ answers) o h = absurd h
orders_keep orders run gs (ask ∷ asks) [] o h = o
orders_keep orders run gs (ask ∷ asks) (answer ∷ answers) o h =
    orders_keep (if is_refused answer then orders else orders ++ order_of ask) (run_after run gs ask answer) (groups_after gs ask answer) asks answers next h.1
  where
    next : AreOrdersOf (if is_refused answer then orders else orders ++ order_of ask) (groups_after gs ask answer)
    next = elim (cases_Bool (is_refused answer)) [ inl t ↦ rw t o | inr f ↦ rw f (change orders run gs ask answer o h.0 f) ]

pub chains : BeforeIsAChain
chains run asks answers q p h =
    let o = orders_keep [] run no_groups asks answers none_ordered h in
    (o.to q p, o.from q p)
