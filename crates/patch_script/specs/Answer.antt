-- The text of an answer.
use Rattle.std.specs.Prelude.{ℕ, ◌++◌, ◌∷◌, [], List, Option, Some, None, codes, decimal}
use Rattle.hex.specs.Hex.{encode_lower}
use Rattle.patch_model.specs.declared.refusals.Refusal.{Refusal}
use Rattle.patch_model.specs.Refusal.{name_of}
use Rattle.patch_script.specs.declared.answers.Answer.{Answer}
use Rattle.patch_script.specs.declared.answers.Answer.TheVariants.{Made, Merged, Sent, Landed, Seen, Shown, OnDisk, GroupMade, Done, Count, Synced, Refused}

-- a number behind a space, where there is one
abbrev pub behind_space : Option ℕ → List ℕ
behind_space None = []
behind_space (Some n) = codes " " ++ decimal n

abbrev pub refusal_text : Refusal → List ℕ
refusal_text r = codes "refused " ++ name_of r.kind ++ behind_space r.number

-- each number behind a comma
abbrev pub behind_commas : List ℕ → List ℕ
behind_commas [] = []
behind_commas (n ∷ ns) = codes "," ++ decimal n ++ behind_commas ns

-- the first number, and each further one behind a comma
abbrev pub numbers_text : List ℕ → List ℕ
numbers_text [] = []
numbers_text (n ∷ ns) = decimal n ++ behind_commas ns

-- the block of a flight, and the numbers of its patches
abbrev pub flight_text : ℕ → List ℕ → List ℕ
flight_text block numbers = decimal block ++ codes " " ++ numbers_text numbers

abbrev pub seen_text : List ℕ → List ℕ → List ℕ
seen_text without cached = (codes "without " ++ encode_lower without) ++ (codes " cached " ++ encode_lower cached)

abbrev pub answer_text : Answer → List ℕ
answer_text (Made number) = codes "patch " ++ decimal number
answer_text (Merged number) = codes "merged " ++ decimal number
answer_text (Sent block numbers) = codes "sent " ++ flight_text block numbers
answer_text (Landed block numbers) = codes "durable " ++ flight_text block numbers
answer_text (Seen without cached) = seen_text without cached
answer_text (Shown bytes) = codes "shown " ++ encode_lower bytes
answer_text (OnDisk bytes) = codes "disk " ++ encode_lower bytes
answer_text (GroupMade group) = codes "group " ++ decimal group
answer_text Done = codes "ok"
answer_text (Count count) = codes "pending " ++ decimal count
answer_text Synced = codes "synced"
answer_text (Refused refusal) = refusal_text refusal

abbrev pub answer_line : Answer → List ℕ
answer_line answer = answer_text answer ++ 10 ∷ []
