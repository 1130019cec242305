-- The answers so far, as they grow line by line.
use Rattle.std.proofs.Common.{◌≡◌, ◌++◌, ◌∙◌, List, ℕ, Option, Some, None, ap, append_assoc, sym, ◌∷◌, [], subst, refl}
use Rattle.std.specs.Prelude.{IfSome, IfErr, Result, Ok, Err}
use Rattle.std.specs.Io.KnownBytes.{Appends}
use Rattle.std.proofs.lemmas.List.{append-nil}
use Rattle.patch_script.specs.declared.forms.Line.{Line}
use Rattle.patch_script.specs.declared.answers.Answer.{Answer}
use Rattle.patch_script.specs.Answer.{answer_line}
use Rattle.patch_script.specs.Script.{script_of}
use Rattle.patch_replay.specs.Answering.{IsAnswered, AreAnswers}
use Rattle.patch_replay.specs.World.{World}
use Rattle.patch_replay.specs.Growing.{twice, same}
use Rattle.patch_replay.specs.Replay.{answers_text, IsLineTold, HasBegun, HasAnswered, Stopped, lines_in, memory_text, Starved}
use Rattle.patch_replay.specs.declared.endings.Fault.{Fault}
use Rattle.patch_replay.specs.declared.endings.Fault.TheVariants as fault

-- One more line, and its answer.

pushed_right : (w mid next : World) (lines : List Line) (answers : List Answer) (line : Line) (answer : Answer) → AreAnswers w lines answers mid → IsAnswered mid line answer next
    → AreAnswers w (lines ++ line ∷ []) (answers ++ answer ∷ []) next
pushed_right w mid next [] [] line answer so_far right = (next, subst (λ v. IsAnswered v line answer next) so_far right, refl)
pushed_right w mid next [] (a ∷ more) line answer so_far right = absurd so_far
pushed_right w mid next (l ∷ lines) [] line answer so_far right = absurd so_far
pushed_right w mid next (l ∷ lines) (a ∷ more) line answer so_far right =
    (so_far.0, so_far.1, pushed_right so_far.0 mid next lines more line answer so_far.2 right)

pushed_text : (answers : List Answer) (answer : Answer) → answers_text (answers ++ answer ∷ []) ≡ answers_text answers ++ answer_line answer
pushed_text [] answer = append-nil (answer_line answer)
pushed_text (a ∷ answers) answer = ap (λ (t : List ℕ). answer_line a ++ t) (pushed_text answers answer) ∙ sym (append_assoc (answer_line a) _ _)

-- the answers to the lines so far are right and written, and the core has come to the world after them
pub record HasCome (w : World) (lines : List Line) (IsAt : World → Type 0) (old new : Option (List ℕ)) : Type 0 where
  pub answers : List Answer
  pub last : World
  pub right : AreAnswers w lines answers last
  pub at : IsAt last
  pub written : Appends old new (answers_text answers)

pub at_first : (w : World) (IsAt : World → Type 0) (old : Option (List ℕ)) → IsAt w → HasCome w [] IsAt old old
at_first w IsAt old at = record { answers = []; last = w; right = refl; at = at; written = same old }

-- one more line of text
pub one_more_line : (w : World) (first : List Line) (line : Line) (IsAt IsNow : World → Type 0) (old mid new : Option (List ℕ)) (bytes text : List ℕ)
    → bytes ≡ text → (so_far : HasCome w first IsAt old mid) → IsLineTold so_far.last line text IsNow
    → Appends mid new bytes → HasCome w (first ++ line ∷ []) IsNow old new
one_more_line w first line IsAt IsNow old mid new bytes text said so_far one appends = record {
  answers = so_far.answers ++ one.answer ∷ [];
  last = one.comes.0;
  right = pushed_right w so_far.last one.comes.0 first so_far.answers line one.answer so_far.right one.comes.1;
  at = one.comes.2;
  written = subst (Appends old new) (ap (λ (t : List ℕ). answers_text so_far.answers ++ t) (said ∙ one.is) ∙ sym (pushed_text so_far.answers one.answer))
      (twice old mid new _ bytes so_far.written appends);
}

-- the answers to some first lines are written, and nothing behind them
pub begun : (w : World) (first rest lines : List Line) (IsAt : World → Type 0) (old new : Option (List ℕ)) → first ++ rest ≡ lines → HasCome w first IsAt old new
    → HasBegun w lines [] old new
begun w first rest lines IsAt old new split come = record {
  first = first;
  rest = rest;
  split = split;
  text = answers_text come.answers;
  is = record { answers = come.answers; last = come.last; right = come.right; is = refl };
  written = subst (Appends old new) (sym (append-nil (answers_text come.answers))) come.written;
}

-- nothing is answered, and a last text is written
pub none_begun : (w : World) (lines : List Line) (last : List ℕ) (old new : Option (List ℕ)) → Appends old new last → HasBegun w lines last old new
none_begun w lines last old new appends =
    record { first = []; rest = lines; split = refl; text = []; is = record { answers = []; last = w; right = refl; is = refl }; written = appends }

-- where the answers stop, those of some first lines are written
answered_first : (fault : Fault) (w : World) (lines : List Line) (old new : Option (List ℕ)) → HasBegun w lines [] old new → HasAnswered fault w lines old new
answered_first fault.Read w lines old new begun = tt
answered_first fault.Write w lines old new begun = tt
answered_first fault.OutOfMemory w lines old new begun = begun

pub stopped_first : {T : Type 0} (r : Result T Fault) (w : World) (lines : List Line) (old new : Option (List ℕ)) → HasBegun w lines [] old new
    → IfErr r (λ fault. HasAnswered fault w lines old new)
stopped_first (Ok x) w lines old new begun = tt
stopped_first (Err fault) w lines old new begun = answered_first fault w lines old new begun

-- the reading failed, and nothing is written
unread : (input : Option (List ℕ)) (fault : Fault) (w : World) (old : Option (List ℕ)) → IfSome input (λ script. Stopped fault w script old old)
unread None fault w old = tt
unread (Some script) fault w old = answered_first fault w (lines_in (script_of script)) old old (none_begun w (lines_in (script_of script)) [] old old (same old))

pub stopped_unread : {T : Type 0} (r : Result T Fault) (input : Option (List ℕ)) (w : World) (old : Option (List ℕ)) → IfErr r (λ fault. IfSome input (λ script. Stopped fault w script old old))
stopped_unread (Ok x) input w old = tt
stopped_unread (Err fault) input w old = unread input fault w old

-- memory ran out before the first line
pub starved_at_once : (w : World) (input old new : Option (List ℕ)) → Appends old new memory_text → IfSome input (λ script. Starved w script old new)
starved_at_once w None old new appends = tt
starved_at_once w (Some script) old new appends = none_begun w (lines_in (script_of script)) memory_text old new appends
