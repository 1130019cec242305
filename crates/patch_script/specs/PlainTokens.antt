-- Plain values and objects, as JSON writes them by its tokens.
use Rattle.std.specs.Prelude.{ℕ, ◌≡◌, List, [], ◌∷◌, Some, None}
use Rattle.json.specs.Token.{Token}
use Rattle.json.specs.Json.{after_end_array, read_key}
use Rattle.serde_json.specs.Data.{unsigned}
use Rattle.serde_json.specs.Read.{number_of}
use Rattle.patch_script.specs.declared.objects.Plain.{Plain}
use Rattle.patch_script.specs.declared.objects.Plain.TheVariants.{Text, Whole, Flag, Wholes}
use Rattle.patch_script.specs.declared.objects.Member.{Member}

-- The tokens begin with this, and then comes the rest.

pub record IsWhole (ts : List Token) (n : ℕ) (rest : List Token) : Type 0 where
  pub digits : List ℕ
  pub first : ts ≡ Token.number digits ∷ rest
  pub value : number_of digits ≡ Some (unsigned n)

-- the numbers of a list that was opened, and its end
abbrev pub AreWholes : List Token → List ℕ → List Token → Type 0
AreWholes ts [] rest = after_end_array ts ≡ Some rest
AreWholes ts (n ∷ ns) rest = (behind : List Token) × IsWhole ts n behind × AreWholes behind ns rest

abbrev pub IsPlain : List Token → Plain → List Token → Type 0
IsPlain ts (Text text) rest = ts ≡ Token.string text.now ∷ rest
IsPlain ts (Whole n) rest = IsWhole ts n rest
IsPlain ts (Flag b) rest = ts ≡ Token.boolean b ∷ rest
IsPlain ts (Wholes numbers) rest = (behind : List Token) × (ts ≡ Token.begin_array ∷ behind) × AreWholes behind numbers.items rest

-- the members of an object that was opened, and its end
abbrev pub AreMembers : List Token → List Member → List Token → Type 0
AreMembers ts [] rest = read_key ts ≡ Some (None, rest)
AreMembers ts (m ∷ ms) rest =
    (at : List Token) × (behind : List Token) × (read_key ts ≡ Some (Some m.name.now, at)) × IsPlain at m.value behind × AreMembers behind ms rest
