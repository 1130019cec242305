-- What a step keeps that changes marks, ready sets and counts alone.
use Rattle.std.proofs.Common.{◌≡◌, ℕ, ◌∙◌, inl, inr, Bool, false, refl, sym, ap, Option, Some, None}
use Rattle.std.specs.Prelude.{count_by}
use Rattle.std.specs.Option.{option_map, option_map_or}
use Rattle.patch_links.specs.State.{Node, Nodes, Numbers, leads_at, node_at, is_at}
use Rattle.patch_links.specs.Waiting.{AreLinked}
use Rattle.patch_links.specs.Invariants.{bare, plain, has_member, names, AreMembers, AreBelow, KeepsBare, KeepsPlain}
use Rattle.patch_links.proofs.Places.{cases_option, same_some}

pub bare-plain : (old new : Nodes) → KeepsBare old new → KeepsPlain old new
bare-plain old new k = record { long = k.long; plain = λ key. sym (by (node_at new key)) ∙ ap (option_map plain) (k.bare key) ∙ by (node_at old key) }
  where
    by : (o : Option Node) → option_map plain (option_map bare o) ≡ option_map plain o
    by None = refl
    by (Some x) = refl

pub plain-then : (a b c : Nodes) → KeepsPlain a b → KeepsPlain b c → KeepsPlain a c
plain-then a b c p q = record { long = q.long ∙ p.long; plain = λ k. q.plain k ∙ p.plain k }

pub plain-same : (nodes : Nodes) → KeepsPlain nodes nodes
plain-same nodes = record { long = refl; plain = λ k. refl }

pub plain-was : (old new : Nodes) (key : ℕ) (y : Node) → KeepsPlain old new → node_at new key ≡ Some y → (x : Node) × (node_at old key ≡ Some x) × (plain y ≡ plain x)
plain-was old new key y k at = elim (cases_option (node_at old key)) [
  | inl none ↦
      let a : option_map plain (node_at new key) ≡ Some (plain y) = ap (option_map plain) at in
      let b : option_map plain (node_at old key) ≡ None = ap (option_map plain) none in
      let e = k.plain key in absurd (cc)
  | inr x ↦ (x.0, x.1, same_some (plain y) (plain x.0) (sym (ap (option_map plain) at) ∙ k.plain key ∙ ap (option_map plain) x.1))
]

-- a test that marks, ready sets and counts have no part in
pub plain-test : (test : Node → Bool) (old new : Nodes) (key : ℕ) → KeepsPlain old new → ((x : Node) → test (plain x) ≡ test x) → is_at test new key ≡ is_at test old key
plain-test test old new key k same = sym (by (node_at new key)) ∙ ap (λ o. option_map_or test o false) (k.plain key) ∙ by (node_at old key)
  where
    by : (o : Option Node) → option_map_or test (option_map plain o) false ≡ option_map_or test o false
    by None = refl
    by (Some x) = same x

pub members-kept : (old new : Nodes) (numbers : Numbers) → KeepsPlain old new → AreMembers old numbers → AreMembers new numbers
members-kept old new numbers k m n key = m n key ∙ sym (plain-test (has_member n) old new key k (λ x. refl))

pub below-kept : (made : ℕ) (old new : Nodes) → KeepsPlain old new → AreBelow made old → AreBelow made new
below-kept made old new k b key n t = b key n (sym (plain-test (names n) old new key k (λ x. refl)) ∙ t)

pub linked-plain : (old new : Nodes) (numbers : Numbers) → KeepsPlain old new → AreLinked old numbers → AreLinked new numbers
linked-plain old new numbers k linked key j x y apart at at2 =
    let a = plain-was old new key x k at in
    let b = plain-was old new j y k at2 in
    ap (λ z. count_by (leads_at numbers key) z.followers) b.2 ∙ linked key j a.0 b.0 apart a.1 b.1 ∙ sym (ap (λ z. count_by (leads_at numbers j) z.class.after) a.2)
