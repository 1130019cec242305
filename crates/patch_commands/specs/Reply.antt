-- The text of a reply. What a replay answers too has its text from there.
use Rattle.std.specs.Prelude.{ℕ, ◌++◌, ◌∷◌, [], List, codes}
use Rattle.hex.specs.Hex.{encode_lower}
use Rattle.patch_history.specs.Command.{Reply, Done, Value, Absent, GroupMade, Count, Refused}
use Rattle.patch_script.specs.Answer.{answer_text}
use Rattle.patch_script.specs.declared.answers.Answer.TheVariants as answer

-- the bytes behind a space, where there are any
abbrev pub value_text : List ℕ → List ℕ
value_text [] = codes "value"
value_text (x ∷ xs) = codes "value " ++ encode_lower (x ∷ xs)

abbrev pub reply_text : Reply → List ℕ
reply_text Done = answer_text answer.Done
reply_text (Value bytes) = value_text bytes
reply_text Absent = codes "none"
reply_text (GroupMade group) = answer_text (answer.GroupMade group)
reply_text (Count count) = answer_text (answer.Count count)
reply_text (Refused refusal) = answer_text (answer.Refused refusal)

abbrev pub reply_line : Reply → List ℕ
reply_line reply = reply_text reply ++ 10 ∷ []

-- what a sync is answered
abbrev pub synced_line : List ℕ
synced_line = answer_text answer.Synced ++ 10 ∷ []
