-- The members of a plain object, and what stands at a name.
use Rattle.std.proofs.Common.{◌≡◌, ℕ, ◌+◌, suc, ◌<◌, ◌^◌, List, [], ◌∷◌, ◌++◌, length, take, get_or, Fits, w32, Some, true, false, bytes_eq, refl, sym, ap, ◌∙◌, subst, arith, rules}
use Rattle.std.proofs.lemmas.Bool.{both_ways, lt-ltb}
use Rattle.std.proofs.lemmas.List.{take_more}
use Rattle.std.proofs.lemmas.Slice.Eq.{bytes_eq-Decides}
use Rattle.serde_json.specs.Data.{Data, Members, no_members, put}
use Rattle.serde_json.specs.Find.{get_member}
use Rattle.serde_json.proofs.Views.{get_member-put, get_member-put_other}
use Rattle.patch_script.specs.Field.{wholes_of}
use Rattle.patch_script.specs.Object.{numbers_data, plain_data, puts}
use Rattle.patch_script.specs.declared.objects.Member.{Member}

puts_last : (ms : List Member) (m : Member) (found : Members) → puts (ms ++ m ∷ []) found ≡ put m.name.now (plain_data m.value) (puts ms found)
puts_last [] m found = refl
puts_last (x ∷ ms) m found = puts_last ms m (put x.name.now (plain_data x.value) found)

-- one member more goes in last
pub one_more : (ms : List Member) (m : Member) → puts (ms ++ m ∷ []) no_members ≡ put m.name.now (plain_data m.value) (puts ms no_members)
one_more ms m = puts_last ms m no_members

-- the first n members are those before the place at, and the one there
pub last_of_front : (ms : List Member) (n at : ℕ) (m : Member) → n ≡ at + 1 → at < length ms → m ≡ get_or ms at m
    → puts (take n ms) no_members ≡ put m.name.now (plain_data m.value) (puts (take at ms) no_members)
last_of_front ms n at m e within is =
    ap (λ k. puts (take k ms) no_members) e ∙ ap (λ row. puts row no_members) (take_more ms at m within ∙ ap (λ x. take at ms ++ x ∷ []) (sym is))
    ∙ one_more (take at ms) m

pub has_name : (name key : List ℕ) (d : Data) (ms : Members) → bytes_eq key name ≡ true → get_member name (put key d ms) ≡ Some d
has_name name key d ms e = subst (λ (k : List ℕ). get_member k (put key d ms) ≡ Some d) ((bytes_eq-Decides key name).0 e) (get_member-put key d ms)

pub has_other_name : (name key : List ℕ) (d : Data) (ms : Members) → bytes_eq key name ≡ false → get_member name (put key d ms) ≡ get_member name ms
has_other_name name key d ms e = get_member-put_other name key d ms (λ same. both_ways _ e ((bytes_eq-Decides key name).1 (sym same)))

-- whole numbers of 32 bits, as data, are what they were
pub wholes_fit : (ns : List ℕ) → ((i : ℕ) → Fits w32 (get_or ns i 0)) → wholes_of (numbers_data ns) ≡ Some ns
wholes_fit [] fit = refl
wholes_fit (n ∷ ns) fit =
    let fits : Fits w32 n = fit 0 in
    let small : n < 2 ^ 32 = search (rules, arith) in
    rw (lt-ltb n (2 ^ 32) small, wholes_fit ns (λ i. fit (suc i)))
