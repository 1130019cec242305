use Rattle.std.proofs.Common.{◌≡◌, List, [], ◌∷◌, Bool, true, false, refl, ap, inl, inr, length, drop, arith, ℕ, ◌<◌}
use Rattle.patch_frame.specs.Field.{zeros}
use Rattle.patch_plans.specs.Writing.{Written, steps_by}
use Rattle.patch_model.specs.Refusal.{code_of}
use Rattle.patch_history.specs.Command.{Reply, Done, Value, Absent, GroupMade, Count, Refused}
use Rattle.patch_history.specs.Rows.{put_steps, put_written}
use Rattle.patch_history.proofs.rows.right_and_wrong.Goals as goal

some_step : (choices : List Bool) (ws : List Written) → 0 < length ws → [] ≡ steps_by choices ws → ⊥
some_step choices [] h e = absurd (omega (arith, h))
some_step [] (w ∷ ws) h e = let none = ap length e in absurd (omega (arith, none))
some_step (true ∷ choices) (w ∷ ws) h e = let none = ap length e in absurd (omega (arith, none))
some_step (false ∷ choices) (w ∷ ws) h e = let none = ap length e in absurd (omega (arith, none))

-- the number of a refusal
abbrev code_in : Reply → ℕ
code_in Done = 0
code_in (Value bytes) = 0
code_in Absent = 0
code_in (GroupMade group) = 0
code_in (Count count) = 0
code_in (Refused refusal) = code_of refusal.kind

pub returns-clause-done : goal.returns-clause-done
unfolding zeros
returns-clause-done c = inl (refl, ([], refl))

pub returns-clause-cut : goal.returns-clause-cut
unfolding zeros
returns-clause-cut c = inr (record { takes = refl; no_cause = refl; reply_is = refl; cut = (drop 2 put_steps, (λ e. let none = ap length e in absurd (omega (arith, none))), ([], refl)) })

pub returns-clause-not_for_nothing : goal.returns-clause-not_for_nothing
unfolding zeros
returns-clause-not_for_nothing c = λ right. elim right [ inl a ↦ (let k : length put_written ≡ 3 = refl in some_step a.1.0 put_written (omega (arith, k)) a.1.1) | inr b ↦ (let e : 0 ≡ 1 = ap code_in b.reply_is in absurd (omega (arith, e))) ]

pub returns-clause-no_cause : goal.returns-clause-no_cause
unfolding zeros
returns-clause-no_cause c = λ right. elim right [ inl a ↦ (let e : 43 ≡ 0 = ap code_in a.0 in absurd (omega (arith, e))) | inr b ↦ (let e : 43 ≡ 1 = ap code_in b.reply_is in absurd (omega (arith, e))) ]

pub returns-clause-no_value : goal.returns-clause-no_value
returns-clause-no_value c = λ right. elim right [ inl a ↦ (let e = a.0 in absurd (cc)) | inr b ↦ (let e = b.reply_is in absurd (cc)) ]

pub returns-clause-always_granted : goal.returns-clause-always_granted
returns-clause-always_granted c = λ right. elim right [ inl a ↦ (let e : 1 ≡ 27 = ap code_in a.0 in absurd (omega (arith, e))) | inr b ↦ (let e = b.takes in absurd (cc)) ]
