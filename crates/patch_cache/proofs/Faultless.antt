-- Only a completion meets a fault.
use Rattle.std.proofs.Common.{◌≡◌, ℕ, ◌⊎◌, ◌∙◌, inl, inr, Bool, true, false, Option, Some, None, Result, Ok, Err, List, [], ◌∷◌, refl, ap}
use Rattle.std.specs.Prelude.{find, slice_get, cond, ◌==◌, ◌&&◌, nat_le, nat_lt, length, ◌+◌, if◌then◌else◌}
use Rattle.patch_model.specs.declared.refusals.Refusal.{Refusal}
use Rattle.patch_model.specs.declared.refusals.RefusalKind.{RefusalKind}
use Rattle.patch_model.specs.declared.refusals.RefusalKind.TheVariants as kind
use Rattle.patch_model.specs.declared.blocks.TheConstants.{BLOCK}
use Rattle.patch_model.specs.Entry.{Entry, is_live, is_flight, is_durable, is_among}
use Rattle.patch_model.specs.Execution.{Execution}
use Rattle.patch_model.specs.State.{entries_of}
use Rattle.patch_model.specs.History.{History, history_of}
use Rattle.patch_model.specs.Refusing.{bare, least, applied_dependents, taken_dependencies, hindered_by, why_not_shown, why_class_not_taken, why_not_taken, why_not_put_back}
use Rattle.patch_cache.specs.Viewing.{why_not_taken_of, names_unless, with_move, with_moves, go_on}
use Rattle.patch_cache.specs.Asks.{Answer, View, Refused, IsFault, IsAnswer, IsGivenUp, seen, unless}
use Rattle.patch_cache.specs.declared.asks.Move.{Move}
use Rattle.patch_cache.specs.declared.asks.Move.TheVariants.{Take, Back}

-- the cause isn't a fault
abbrev is_fault : RefusalKind → Bool
is_fault kind.Fault = true
is_fault kind.SyncFailed = true
is_fault _ = false

abbrev IsOther : Option Refusal → Type 0
IsOther None = Unit {0}
IsOther (Some cause) = is_fault cause.kind ≡ false

if_either : (b : Bool) (x y : Option Refusal) → IsOther x → IsOther y → IsOther (cond b x y)
if_either true x y p q = p
if_either false x y p q = q

hindered : (o : Option ℕ) → IsOther (hindered_by kind.DependentApplied o) × IsOther (hindered_by kind.DependencyTaken o)
hindered None = (tt, tt)
hindered (Some n) = (refl, refl)

class_other : (h : History) (taken : List ℕ) (e : Entry) → IsOther (why_class_not_taken h taken e)
class_other h taken e =
    if_either (is_flight e) _ _ (refl) (if_either e.hard _ _ (refl)
    (if_either (is_among taken e.class) _ _ (refl) (hindered (least (applied_dependents h taken e.class))).0))

take_by : (h : History) (taken : List ℕ) (o : Option Entry) → IsOther (elim o [ None ↦ Some (bare kind.Unknown) | Some e ↦ why_class_not_taken h taken e ])
take_by h taken None = refl
take_by h taken (Some e) = class_other h taken e

take_other : (h : History) (taken : List ℕ) (number : ℕ) → IsOther (why_not_taken h taken number)
take_other h taken number = take_by h taken (find (λ e. e.patch.no == number && is_live e) h.entries)

take_of_by : (run : Execution) (block : ℕ) (names : List ℕ) (number : ℕ) (o : Option Entry)
    → IsOther (elim o [ None ↦ Some (bare kind.Unknown) | Some e ↦ if is_durable e then Some (bare kind.Durable) else why_not_taken (history_of run block) names number ])
take_of_by run block names number None = refl
take_of_by run block names number (Some e) = if_either (is_durable e) _ _ (refl) (take_other (history_of run block) names number)

back_by : (h : History) (taken : List ℕ) (o : Option Entry)
    → IsOther (elim o [ None ↦ Some (bare kind.NotTaken) | Some e ↦ hindered_by kind.DependencyTaken (least (taken_dependencies h taken e.class)) ])
back_by h taken None = refl
back_by h taken (Some e) = (hindered (least (taken_dependencies h taken e.class))).1

-- neither is a refusal of a move
abbrev IsOtherOf : Result (List ℕ) Refusal → Type 0
IsOtherOf (Ok names) = Unit {0}
IsOtherOf (Err cause) = is_fault cause.kind ≡ false

unless_other : (o : Option Refusal) (names : List ℕ) → IsOther o → IsOtherOf (names_unless o names)
unless_other None names p = tt
unless_other (Some cause) names p = p

move_other : (run : Execution) (block : ℕ) (names : List ℕ) (move : Move) → IsOtherOf (with_move run block names move)
move_other run block names (Take number) = unless_other (why_not_taken_of run block names number) _ (take_of_by run block names number (slice_get (entries_of run) number))
move_other run block names (Back number) =
    unless_other (why_not_put_back (history_of run block) names number) _
    (back_by (history_of run block) names (find (λ e. e.patch.no == number && is_among names e.class) (history_of run block).entries))

go_other : (r : Result (List ℕ) Refusal) (f : List ℕ → Result (List ℕ) Refusal) → IsOtherOf r → ((names : List ℕ) → IsOtherOf (f names)) → IsOtherOf (go_on r f)
go_other (Ok names) f p q = q names
go_other (Err cause) f p q = p

moves_other : (run : Execution) (block : ℕ) (names : List ℕ) (moves : List Move) → IsOtherOf (with_moves run block names moves)
moves_other run block names [] = tt
moves_other run block names (move ∷ moves) = go_other (with_move run block names move) _ (move_other run block names move) (λ now. moves_other run block now moves)

abbrev answers_fault : Answer → Bool
answers_fault (Refused cause) = is_fault cause.kind
answers_fault _ = false

seen_other : (run : Execution) (block start len : ℕ) (r : Result (List ℕ) Refusal) → IsOtherOf r → answers_fault (seen run block start len r) ≡ false
seen_other run block start len (Ok names) p = refl
seen_other run block start len (Err cause) p = p

unless_fault : (o : Option Refusal) (done : Answer) → IsOther o → answers_fault done ≡ false → answers_fault (unless o done) ≡ false
unless_fault None done p q = q
unless_fault (Some cause) done p q = p

shown_other : (blocks block start len : ℕ) → IsOther (why_not_shown blocks block start len)
shown_other blocks block start len = if_either (nat_le blocks block) _ _ refl (if_either (nat_lt BLOCK (start + len)) _ _ refl tt)

is_told : (answer : Answer) → IsFault answer → answers_fault answer ≡ true
is_told answer (inl e) = ap answers_fault e
is_told answer (inr e) = ap answers_fault e

not_both : (b : Bool) → b ≡ true → b ≡ false → ⊥
not_both true e f = absurd (cc)
not_both false e f = absurd (cc)

-- a view meets none
pub view_faultless : (run : Execution) (block : ℕ) (moves : List Move) (start len : ℕ) (answer : Answer)
    → IsAnswer run (View block moves start len) answer ⊎ IsGivenUp run (View block moves start len) answer → IsFault answer → ⊥
view_faultless run block moves start len answer (inl right) e =
    not_both (answers_fault answer) (is_told answer e) (ap answers_fault right ∙ unless_fault (why_not_shown (length run.first) block start len) _ (shown_other (length run.first) block start len)
    (seen_other run block start len (with_moves run block [] moves) (moves_other run block [] moves)))
view_faultless run block moves start len answer (inr given) e = elim given.gives_up [
  | inl memory ↦ not_both (answers_fault answer) (is_told answer e) (ap answers_fault memory.0)
  | inr fault ↦ not_both false fault.1 refl
]
