-- Executions that have come to one state, by whatever steps: each ask has one answer behind both, and they stay so.
use Rattle.std.proofs.Common.{◌≡◌, ℕ, ◌∙◌, inl, inr, List, [], ◌∷◌, length, Option, Some, None, Result, Ok, Err, refl, sym, ap, subst}
use Rattle.std.specs.Prelude.{◌==◌, min, nat_le, not, filter, if◌then◌else◌, slice_get, slice_index_or}
use Rattle.std.proofs.lemmas.Bool.{cases_Bool}
use Rattle.patch_model.specs.declared.refusals.Refusal.{Refusal}
use Rattle.patch_model.specs.declared.refusals.RefusalKind.TheVariants as kind
use Rattle.patch_model.specs.Entry.{is_durable}
use Rattle.patch_model.specs.Step.{Step}
use Rattle.patch_model.specs.Step as step
use Rattle.patch_model.specs.Execution.{Execution, extended}
use Rattle.patch_model.specs.State.{state_of, entries_of, after_step, class_of, has_flight, flying_of, numbers_of}
use Rattle.patch_model.specs.Ready.{ready}
use Rattle.patch_model.specs.Legal.{IsLegalMerge}
use Rattle.patch_model.specs.History.{history_of, of_block, without, cached, image}
use Rattle.patch_model.specs.Refusing.{bare, why_not_made, why_not_sent, why_not_shown, why_not_taken, why_not_put_back, class_named}
use Rattle.patch_cache.specs.Asks.{Ask, Answer, Create, Merge, Send, Complete, View, Made, Merged, Sent, Landed, Seen, Refused, unless, seen, IsAnswer, IsMergeAnswer, is_refused, step_for, extended_by, after}
use Rattle.patch_cache.specs.Refusals.{IsWhyNotMerged}
use Rattle.patch_cache.specs.Viewing.{why_not_taken_of, with_move, with_moves, go_on, names_unless, bytes_at}
use Rattle.patch_cache.specs.declared.asks.Move.{Move}
use Rattle.patch_cache.specs.declared.asks.Move.TheVariants.{Take, Back}
use Rattle.patch_plans.specs.Groups.{Groups, pending, why_not_counted}
use Rattle.patch_group.specs.Asks as group
use Rattle.patch_replay.proofs.Imaging.{StatesExtend}

-- the same blocks at first, and the same of patches, flights and sends
pub record AreAlike (run other : Execution) : Type 0 where
  pub first : run.first ≡ other.first
  pub state : state_of run ≡ state_of other

pub alike_self : (run : Execution) → AreAlike run run
alike_self run = record { first = refl; state = refl }

pub alike_entries : (run other : Execution) → AreAlike run other → entries_of run ≡ entries_of other
alike_entries run other a = ap (λ st. st.entries) a.state

pub alike_history : (run other : Execution) (block : ℕ) → AreAlike run other → history_of run block ≡ history_of other block
alike_history run other block a = λ i. record { first = slice_index_or (a.first i) block []; entries = of_block block (a.state i).entries }

pub alike_extended : StatesExtend → (run other : Execution) (s : Step) → AreAlike run other → AreAlike (extended run s) (extended other s)
alike_extended extend run other s a =
    record { first = a.first; state = extend run s ∙ ap (λ st. after_step st s) a.state ∙ sym (extend other s) }

-- why no write begins
pub alike_sent : (run other : Execution) (block : ℕ) → AreAlike run other → why_not_sent run block ≡ why_not_sent other block
alike_sent run other block a = λ i.
    if nat_le (length (a.first i)) block then Some (bare kind.NoSuchBlock)
    else if has_flight (a.state i) block then Some (bare kind.AlreadyInFlight)
    else if length (ready (a.state i).entries block) == 0 then Some (bare kind.NothingReady)
    else None

-- What a view shows.

alike_taken : (run other : Execution) (block : ℕ) (names : List ℕ) (number : ℕ) → AreAlike run other
    → why_not_taken_of run block names number ≡ why_not_taken_of other block names number
alike_taken run other block names number a = λ i. elim (slice_get (a.state i).entries number) [
  | None ↦ Some (bare kind.Unknown)
  | Some e ↦ if is_durable e then Some (bare kind.Durable) else why_not_taken (alike_history run other block a i) names number
]

alike_move : (run other : Execution) (block : ℕ) (names : List ℕ) (move : Move) → AreAlike run other
    → with_move run block names move ≡ with_move other block names move
alike_move run other block names (Take number) a =
    ap (λ why. names_unless why (class_named (history_of run block) number ∷ names)) (alike_taken run other block names number a)
    ∙ ap (λ h. names_unless (why_not_taken_of other block names number) (class_named h number ∷ names)) (alike_history run other block a)
alike_move run other block names (Back number) a =
    ap (λ h. names_unless (why_not_put_back h names number) (filter (λ n. not (n == class_named h number)) names)) (alike_history run other block a)

gone_on : (f g : List ℕ → Result (List ℕ) Refusal) → ((names : List ℕ) → f names ≡ g names) → (r : Result (List ℕ) Refusal) → go_on r f ≡ go_on r g
gone_on f g same (Ok names) = same names
gone_on f g same (Err cause) = refl

alike_moves : (run other : Execution) (block : ℕ) (names : List ℕ) (moves : List Move) → AreAlike run other
    → with_moves run block names moves ≡ with_moves other block names moves
alike_moves run other block names [] a = refl
alike_moves run other block names (move ∷ moves) a =
    ap (λ r. go_on r (λ now. with_moves run block now moves)) (alike_move run other block names move a)
    ∙ gone_on (λ now. with_moves run block now moves) (λ now. with_moves other block now moves) (λ now. alike_moves run other block now moves a)
    (with_move other block names move)

alike_seen : (run other : Execution) (block start len : ℕ) (r : Result (List ℕ) Refusal) → AreAlike run other
    → seen run block start len r ≡ seen other block start len r
alike_seen run other block start len (Ok names) a =
    ap (λ h. Seen (bytes_at (without h names) start len) (bytes_at (cached h) start len)) (alike_history run other block a)
alike_seen run other block start len (Err cause) a = refl

-- What the cache answers.

alike_merge : (run other : Execution) (a b : ℕ) (x : Answer) → AreAlike run other → IsMergeAnswer run a b x → IsMergeAnswer other a b x
alike_merge run other a b (Merged name) alike p =
    subst (λ all. IsLegalMerge all a b × (name ≡ min (class_of all a) (class_of all b))) (alike_entries run other alike) p
alike_merge run other a b (Refused cause) alike p = subst (λ all. IsWhyNotMerged all a b cause) (alike_entries run other alike) p
alike_merge run other a b (Made number) alike p = p
alike_merge run other a b (Sent block numbers image) alike p = p
alike_merge run other a b (Landed block numbers) alike p = p
alike_merge run other a b (Seen without cached) alike p = p

pub alike_answer : StatesExtend → (run other : Execution) (ask : Ask) (x : Answer) → AreAlike run other → IsAnswer run ask x → IsAnswer other ask x
alike_answer extend run other (Create block start bytes named undo) x a p =
    p ∙ (λ i. unless (why_not_made (length (a.first i)) (a.state i).entries block start bytes named) (Made (length (a.state i).entries)))
alike_answer extend run other (Merge b c) x a p = alike_merge run other b c x a p
alike_answer extend run other (Send block) x a p =
    let later = alike_history (extended run (step.Send block)) (extended other (step.Send block)) block (alike_extended extend run other (step.Send block) a) in
    p ∙ (λ i. unless (alike_sent run other block a i) (Sent block (numbers_of (ready (a.state i).entries block)) (image (later i))))
alike_answer extend run other (Complete block) x a p =
    p ∙ (λ i. if has_flight (a.state i) block then Landed block (numbers_of (flying_of (a.state i).entries block)) else Refused (bare kind.Stranger))
alike_answer extend run other (View block moves start len) x a p =
    p ∙ ap (λ blocks. unless (why_not_shown (length blocks) block start len) (seen run block start len (with_moves run block [] moves))) a.first
    ∙ ap (λ shown. unless (why_not_shown (length other.first) block start len) shown)
    (alike_seen run other block start len (with_moves run block [] moves) a ∙ ap (seen other block start len) (alike_moves run other block [] moves a))

-- Behind an ask.

alike_stepped : StatesExtend → (run other : Execution) (s : Option Step) → AreAlike run other → AreAlike (extended_by run s) (extended_by other s)
alike_stepped extend run other None a = a
alike_stepped extend run other (Some s) a = alike_extended extend run other s a

alike_after : StatesExtend → (run other : Execution) (ask : Ask) (x : Answer) → AreAlike run other → AreAlike (after run ask x) (after other ask x)
alike_after extend run other ask x a = elim (cases_Bool (is_refused x)) [
  | inl t ↦ rw t a
  | inr f ↦ rw f (alike_stepped extend run other (step_for ask) a)
]

-- The same with groups.

alike_call : (run other : Execution) (gs : Groups) (ask : group.Ask) → AreAlike run other → group.call_answer run gs ask ≡ group.call_answer other gs ask
alike_call run other gs (group.Plain ask) a = refl
alike_call run other gs (group.Patch writer block start bytes named undo) a = refl
alike_call run other gs group.Group a = refl
alike_call run other gs (group.Engage writer g) a = refl
alike_call run other gs (group.Disengage writer g) a = refl
alike_call run other gs (group.Depend g on) a = refl
alike_call run other gs (group.Close g) a = refl
alike_call run other gs (group.Pending g) a =
    ap (λ all. group.unless (why_not_counted gs g) (group.Count (pending all gs g))) (alike_entries run other a)

alike_plain : StatesExtend → (run other : Execution) (ask : Ask) (x : group.Answer) → AreAlike run other
    → group.IsPlain (IsAnswer run ask) x → group.IsPlain (IsAnswer other ask) x
alike_plain extend run other ask (group.Plain x) a p = alike_answer extend run other ask x a p
alike_plain extend run other ask (group.GroupMade g) a p = p
alike_plain extend run other ask group.Done a p = p
alike_plain extend run other ask (group.Count count) a p = p
alike_plain extend run other ask (group.Refused cause) a p = p

pub alike_group_answer : StatesExtend → (run other : Execution) (gs : Groups) (ask : group.Ask) (x : group.Answer) → AreAlike run other
    → group.IsGroupAnswer run gs ask x → group.IsGroupAnswer other gs ask x
alike_group_answer extend run other gs ask x a = by (group.plain_of gs ask)
  where
    by : (p : Option Ask)
        → (elim p as (λ _. Type 0) [ Some plain ↦ group.IsPlain (IsAnswer run plain) x | None ↦ x ≡ group.call_answer run gs ask ])
        → (elim p as (λ _. Type 0) [ Some plain ↦ group.IsPlain (IsAnswer other plain) x | None ↦ x ≡ group.call_answer other gs ask ])
    by None e = e ∙ alike_call run other gs ask a
    by (Some plain) e = alike_plain extend run other plain x a e

pub alike_run_after : StatesExtend → (run other : Execution) (gs : Groups) (ask : group.Ask) (x : group.Answer) → AreAlike run other
    → AreAlike (group.run_after run gs ask x) (group.run_after other gs ask x)
alike_run_after extend run other gs ask x a = by (group.plain_of gs ask) x
  where
    parts : Option Ask → group.Answer → List group.Part
    parts p x = elim p [ Some plain ↦ group.answered_by plain x | None ↦ [] ]

    by : (p : Option Ask) (x : group.Answer) → AreAlike (group.after_parts run (parts p x)) (group.after_parts other (parts p x))
    by None x = a
    by (Some plain) (group.Plain y) = alike_after extend run other plain y a
    by (Some plain) (group.GroupMade g) = a
    by (Some plain) group.Done = a
    by (Some plain) (group.Count count) = a
    by (Some plain) (group.Refused cause) = a
