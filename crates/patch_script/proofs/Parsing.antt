-- What the tokens of a plain object are, as JSON reads them.
use Rattle.std.proofs.Common.{◌≡◌, ℕ, ◌+◌, ◌-◌, ◌<◌, ◌≤◌, List, [], ◌∷◌, length, Option, Some, None, IfSome, option_map, option_and_then, refl, ap, ◌∙◌, arith}
use Rattle.json.specs.Token.{Token}
use Rattle.json.specs.Lex.{tokens}
use Rattle.json.specs.Json as json
use Rattle.json.specs.Json.{read_key, after_end_array, parse_map, value, items, members, if_last}
use Rattle.json.proofs.Grammar.{value_is, value-begin_array, value-begin_object, after_end_array-shorter, read_key-shorter, items_end, items_more, members_end, members_more}
use Rattle.serde_json.specs.Data.{Members, no_members, put, unsigned, number, array, object}
use Rattle.serde_json.specs.Read.{of_json, of_items, of_members, number_of, read}
use Rattle.patch_script.specs.Object.{numbers_data, plain_data, puts, row_data}
use Rattle.patch_script.specs.PlainTokens.{IsWhole, AreWholes, IsPlain, AreMembers}
use Rattle.patch_script.specs.declared.objects.Plain.{Plain}
use Rattle.patch_script.specs.declared.objects.Plain.TheVariants.{Text, Whole, Flag, Wholes}
use Rattle.patch_script.specs.declared.objects.Member.{Member}

-- the number of a token, if it is a whole one
pub if_whole : (ts rest : List Token) (s : List ℕ) (r : Option ℕ) → ts ≡ Token.number s ∷ rest → IfSome r (λ n. number_of s ≡ Some (unsigned n)) → IfSome r (λ n. IsWhole ts n rest)
if_whole ts rest s None e is = tt
if_whole ts rest s (Some n) e is = record { digits = s; first = e; value = is }

-- Each takes a token at least.

wholes-shorter : (ns : List ℕ) (ts rest : List Token) → AreWholes ts ns rest → length rest < length ts
wholes-shorter [] ts rest e = after_end_array-shorter ts rest e
wholes-shorter (n ∷ ns) ts rest (behind, first, more) =
    let later : length rest < length behind = wholes-shorter ns behind rest more in
    let one : length ts ≡ length behind + 1 = ap length first.first ∙ omega arith in omega (arith, later, one)

plain-shorter : (plain : Plain) (ts rest : List Token) → IsPlain ts plain rest → length rest < length ts
plain-shorter (Text text) ts rest e = rw e (omega arith)
plain-shorter (Whole n) ts rest is = rw is.first (omega arith)
plain-shorter (Flag b) ts rest e = rw e (omega arith)
plain-shorter (Wholes numbers) ts rest (behind, e, more) =
    let later : length rest < length behind = wholes-shorter numbers.items behind rest more in
    let one : length ts ≡ length behind + 1 = ap length e ∙ omega arith in omega (arith, later, one)

-- What they are.

pub record IsRead {J D : Type 0} (parsed : Option (J × List Token)) (convert : J → Option D) (d : D) (rest : List Token) : Type 0 where
  pub tree : J
  pub parses : parsed ≡ Some (tree, rest)
  pub converts : convert tree ≡ Some d

wholes_read : (ns : List ℕ) (ts rest : List Token) → AreWholes ts ns rest → (depth fuel : ℕ) → length ts ≤ fuel → IsRead (items (value depth) fuel ts) of_items (numbers_data ns) rest
wholes_read [] ts rest e depth fuel enough = record {
  tree = json.no_items;
  parses = items_end (value depth) fuel ts rest enough e;
  converts = refl;
}
wholes_read (n ∷ ns) ts rest (behind, is, more) depth fuel enough =
    let one : length ts ≡ length behind + 1 = ap length is.first ∙ omega arith in
    let later = wholes_read ns behind rest more depth (fuel - 1) (omega (arith, one, enough)) in record {
      tree = json.item (json.number is.digits) later.tree;
      parses = items_more (value depth) fuel ts behind (json.number is.digits) (omega (arith, one, enough)) (ap after_end_array is.first) (ap (value depth) is.first ∙ value_is depth (Token.number is.digits ∷ behind))
          ∙ ap (parse_map (json.item (json.number is.digits))) later.parses;
      converts = rw (is.value, later.converts);
    }

plain_read : (plain : Plain) (ts rest : List Token) → IsPlain ts plain rest → (depth : ℕ) → 0 < depth → IsRead (value depth ts) of_json (plain_data plain) rest
plain_read (Text text) ts rest e depth some = record {
  tree = json.string text.now;
  parses = ap (value depth) e ∙ value_is depth (Token.string text.now ∷ rest);
  converts = refl;
}
plain_read (Whole n) ts rest is depth some = record {
  tree = json.number is.digits;
  parses = ap (value depth) is.first ∙ value_is depth (Token.number is.digits ∷ rest);
  converts = ap (option_map number) is.value;
}
plain_read (Flag b) ts rest e depth some = record {
  tree = json.boolean b;
  parses = ap (value depth) e ∙ value_is depth (Token.boolean b ∷ rest);
  converts = refl;
}
plain_read (Wholes numbers) ts rest (behind, e, more) depth some =
    let inside = wholes_read numbers.items behind rest more (depth - 1) (length behind) (omega arith) in record {
      tree = json.array inside.tree;
      parses = ap (value depth) e ∙ value-begin_array depth behind some ∙ ap (parse_map json.array) inside.parses;
      converts = ap (option_map array) inside.converts;
    }

record AreRead (parsed : Option (json.Members × List Token)) (ms : List Member) (rest : List Token) : Type 0 where
  pub trees : json.Members
  pub parses : parsed ≡ Some (trees, rest)
  pub converts : (found : Members) → of_members trees found ≡ Some (puts ms found)

members_read : (ms : List Member) (ts rest : List Token) → AreMembers ts ms rest → (depth fuel : ℕ) → 0 < depth → length ts ≤ fuel → AreRead (members (value depth) fuel ts) ms rest
members_read [] ts rest e depth fuel some enough = record {
  trees = json.no_members;
  parses = members_end (value depth) fuel ts rest enough e;
  converts = λ found. refl;
}
members_read (m ∷ ms) ts rest (at, behind, key, is, more) depth fuel some enough =
    let named : length at < length ts = read_key-shorter ts (Some m.name.now) at key in
    let less : length behind < length at = plain-shorter m.value at behind is in
    let it = plain_read m.value at behind is depth some in
    let later = members_read ms behind rest more depth (fuel - 1) some (omega (arith, named, less, enough)) in record {
      trees = json.member m.name.now it.tree later.trees;
      parses = members_more (value depth) fuel m.name.now ts at behind it.tree (omega (arith, named, enough)) key it.parses ∙ ap (parse_map (json.member m.name.now it.tree)) later.parses;
      converts = λ found. ap (option_and_then (λ d. of_members later.trees (put m.name.now d found))) it.converts ∙ later.converts (put m.name.now (plain_data m.value) found);
    }

-- the text of a plain object is read as its members
pub object_read : (text : List ℕ) (ts : List Token) (ms : List Member) → tokens text ≡ Token.begin_object ∷ ts → AreMembers ts ms [] → read text ≡ Some (row_data ms)
object_read text ts ms e are =
    let inside = members_read ms ts [] are 126 (length ts) (omega arith) (omega arith) in
    let parsed : value 127 (tokens text) ≡ Some (json.object inside.trees, []) = ap (value 127) e ∙ value-begin_object 127 ts (omega arith) ∙ ap (parse_map json.object) inside.parses in
    ap (λ o. option_and_then of_json (option_and_then (λ p. if_last p.0 p.1) o)) parsed ∙ ap (option_map object) (inside.converts no_members)
