-- What the steps of a join keep.
use Rattle.std.proofs.Common.{◌≡◌, ℕ, suc, ◌+◌, ◌≤◌, ◌∙◌, inl, inr, List, [], ◌∷◌, ◌++◌, length, refl, sym, ap, arith, subst, Option, Some, None}
use Rattle.std.specs.Prelude.{◌==◌, ◌≢◌, ◌&&◌, if◌then◌else◌, count_by}
use Rattle.std.specs.Option.{option_map}
use Rattle.std.proofs.lemmas.Bool.{cases_Bool, eq-eqb, eqb-true, and_parts}
use Rattle.patch_model.specs.Entry.{marks_memory}
use Rattle.patch_links.specs.State.{Class, Node, Nodes, Numbers, class_at, leads_at, node_at, is_at, slots_of}
use Rattle.patch_links.specs.Waiting.{ready_in, AreCounted}
use Rattle.patch_links.specs.Invariants.{bare, KeepsBare, KeepsRest}
use Rattle.patch_links.specs.Merging.{joined_class, AreRedirected}
use Rattle.patch_links.specs.Joining.{inner, AreTied, KeepsOrder, HasAbsorbed, AreNodesJoined, AreMoved, AreClassesJoined, IsPair, AreLevel}
use Rattle.patch_links.proofs.Places.{cases_option, same_some, is-at, slots-at}
use Rattle.patch_links.proofs.Waits.{linked-kept}
use Rattle.patch_links.proofs.Keeping.{bare-plain, members-kept, below-kept}
use Rattle.patch_links.proofs.Listings.{listed-alike, alike-others}
use Rattle.patch_links.proofs.Joins.{members-joined, linked-joined, counted-joined, below-joined, waits-for}
use Rattle.patch_links.proofs.JoinedLists.{joined-aside}

pub order-same : (block : ℕ) (nodes : Nodes) (numbers : Numbers) → KeepsOrder block nodes nodes numbers numbers
order-same block nodes numbers = record { tied = λ t. t; aside = λ other of d l. l; below = λ made b. b }

pub order-then : (block : ℕ) (a b c : Nodes) (n m o : Numbers) → KeepsOrder block a b n m → KeepsOrder block b c m o → KeepsOrder block a c n o
order-then block a b c n m o p q = record { tied = λ t. q.tied (p.tied t); aside = λ other of d l. q.aside other of d (p.aside other of d l); below = λ made h. q.below made (p.below made h) }

-- a step that changes ready sets and counts of the block alone
pub order-rest : (block : ℕ) (old new : Nodes) (numbers : Numbers) → KeepsRest block old new → (AreCounted old numbers → AreCounted new numbers) → KeepsOrder block old new numbers numbers
order-rest block old new numbers k counted = record {
  tied = λ t. record { members = members-kept old new numbers (bare-plain old new k.all) t.members; linked = linked-kept old new numbers k.all t.linked; counted = counted t.counted };
  aside = λ other of d l. listed-alike other old new of (alike-others block other old new (bare-plain old new k.all) k.others d) l;
  below = λ made b. below-kept made old new (bare-plain old new k.all) b;
}

-- the classes are as they were where but ready sets and counts have changed
pub slots-bare : (old new : Nodes) → KeepsBare old new → slots_of new ≡ slots_of old
slots-bare old new k = by old new k.long k.bare
  where
    same : (o p : Option Node) → option_map bare p ≡ option_map bare o → option_map (λ x. x.class) p ≡ option_map (λ x. x.class) o
    same o p e = sym (kept p) ∙ ap (option_map (λ x. x.class)) e ∙ kept o
      where
        kept : (q : Option Node) → option_map (λ x. x.class) (option_map bare q) ≡ option_map (λ x. x.class) q
        kept None = refl
        kept (Some x) = refl

    by : (xs ys : Nodes) → length ys ≡ length xs → ((k : ℕ) → option_map bare (node_at ys k) ≡ option_map bare (node_at xs k)) → slots_of ys ≡ slots_of xs
    by [] [] long e = refl
    by [] (y ∷ ys) long e = absurd (omega arith)
    by (x ∷ xs) [] long e = absurd (omega arith)
    by (x ∷ xs) (y ∷ ys) long e =
        let rest = by xs ys (omega arith) (λ k. e (suc k)) in ap (λ o. o ∷ slots_of ys) (same x y (e 0)) ∙ ap (λ zs. option_map (λ z. z.class) x ∷ zs) rest

module _ (block keep gone : ℕ) (old : Nodes) (p : IsPair block keep gone old) where
  block-other : p.other.class.block ≡ block
  block-other = sym (eqb-true p.one.class.block p.other.class.block (and_parts (marks_memory p.one.class.mark && marks_memory p.other.class.mark) (p.one.class.block == p.other.class.block) p.may).1) ∙ p.of

  pub ready-one : is_at (ready_in block) old keep ≡ p.one.ready
  ready-one = is-at (ready_in block) old keep p.one p.at_keep ∙ ap (λ b. b && p.one.ready) (eq-eqb p.one.class.block block p.of)

  pub ready-other : is_at (ready_in block) old gone ≡ p.other.ready
  ready-other = is-at (ready_in block) old gone p.other p.at_gone ∙ ap (λ b. b && p.other.ready) (eq-eqb p.other.class.block block block-other)

  module _ (level : AreLevel block keep gone old) where
    pub ready-alike : p.other.ready ≡ p.one.ready
    ready-alike = sym ready-other ∙ sym level ∙ ready-one

    pub order-joined : (new : Nodes) (numbers now : Numbers) → AreTied old numbers → AreNodesJoined keep gone numbers old new → AreMoved keep gone old numbers now → KeepsOrder block old new numbers now
    order-joined new numbers now t joined moved =
        let j = joined p.one p.other p.at_keep p.at_gone in
        let r = moved p.other p.at_gone in
        record {
          tied = λ u. record {
            members = members-joined keep gone p.one p.other old new numbers now p.apart p.at_keep p.at_gone t.members j r;
            linked = linked-joined keep gone p.one p.other old new numbers now p.apart p.at_keep p.at_gone t.members j r t.linked;
            counted = counted-joined keep gone p.one p.other old new numbers now p.apart p.at_keep p.at_gone t.members j r p.may ready-alike t.linked t.counted;
          };
          aside = λ b of d l. listed-alike b old new of (joined-aside block keep gone p.one p.other old new numbers p.apart p.at_keep p.at_gone j p.may p.of b d) l;
          below = below-joined keep gone p.one p.other old new numbers now p.apart p.at_keep p.at_gone t.members j r;
        }

    -- the other node was taken out, and no more
    module _ (first : Nodes) (y : Node) (taken : Some y ≡ node_at old gone) (rest : (k : ℕ) → k ≢ gone → node_at first k ≡ node_at old k) where
      same : y ≡ p.other
      same = same_some y p.other (taken ∙ p.at_gone)

      -- whether the class was in the ready set
      pub taken-level : y.ready ≡ is_at (ready_in block) old keep
      taken-level = ap (λ z. z.ready) same ∙ sym (level ∙ ready-other)

      -- so many of what both wait for are each other
      pub met-fits : (numbers : Numbers) → AreTied old numbers → (x : Node) → node_at first keep ≡ Some x → (if y.ready then 0 else inner numbers keep y) ≤ x.waits + y.waits
      met-fits numbers t x at = elim (cases_Bool p.other.ready) [
        | inl on ↦
            let none : (if y.ready then 0 else inner numbers keep y) ≡ 0 = ap (λ r. if r then 0 else inner numbers keep y) (ap (λ z. z.ready) same ∙ on) in omega arith
        | inr off ↦
            let all : (if y.ready then 0 else inner numbers keep y) ≡ inner numbers keep y = ap (λ r. if r then 0 else inner numbers keep y) (ap (λ z. z.ready) same ∙ off) in
            let is : x ≡ p.one = same_some x p.one (sym at ∙ rest keep p.apart ∙ p.at_keep) in
            let a = waits-for old numbers gone keep p.other t.counted p.at_gone p.apart (ap (λ b. is_at (ready_in b) old keep) block-other ∙ level ∙ ready-other ∙ off) in
            let b = waits-for old numbers keep gone p.one t.counted p.at_keep (λ e. p.apart (sym e)) (ap (λ b. is_at (ready_in b) old gone) p.of ∙ ready-other ∙ off) in
            let link = t.linked keep gone p.one p.other p.apart p.at_keep p.at_gone in
            let after : count_by (leads_at numbers keep) y.class.after ≡ count_by (leads_at numbers keep) p.other.class.after = ap (λ z. count_by (leads_at numbers keep) z.class.after) same in
            let followers : count_by (leads_at numbers keep) y.followers ≡ count_by (leads_at numbers keep) p.other.followers = ap (λ z. count_by (leads_at numbers keep) z.followers) same in
            let wx : x.waits ≡ p.one.waits = ap (λ z. z.waits) is in
            let wy : y.waits ≡ p.other.waits = ap (λ z. z.waits) same in omega arith
      ]

      -- the one node has taken the other in, whose place is empty now
      pub nodes-joined : (mid new : Nodes) (numbers : Numbers) → HasAbsorbed keep y (if y.ready then 0 else inner numbers keep y) first mid
          → node_at new gone ≡ None → ((k : ℕ) → k ≢ gone → node_at new k ≡ node_at mid k) → AreNodesJoined keep gone numbers old new
      nodes-joined mid new numbers a none others x w at-x at-w =
          let h = a.here x (rest keep p.apart ∙ at-x) in
          let is : y ≡ w = same ∙ same_some p.other w (sym p.at_gone ∙ at-w) in
          let ready : y.ready ≡ x.ready = ap (λ v. v.ready) same ∙ ready-alike ∙ ap (λ v. v.ready) (same_some p.one x (sym p.at_keep ∙ at-x)) in
          let met : (if x.ready then 0 else inner numbers keep w) ≡ (if y.ready then 0 else inner numbers keep y) =
          ap (λ r. if r then 0 else inner numbers keep w) (sym ready) ∙ ap (λ v. if y.ready then 0 else inner numbers keep v) (sym is) in
          let waits : y.waits ≡ w.waits = ap (λ v. v.waits) is in
          record {
            node = h.0;
            here = others keep p.apart ∙ h.1;
            none = none;
            others = λ k d g. others k g ∙ a.others k d ∙ rest k g;
            class = h.2.class ∙ ap (λ v. joined_class x.class v.class) is;
            followers = h.2.followers ∙ ap (λ v. x.followers ++ v.followers) is;
            ready = h.2.ready;
            waits = let e = h.2.waits in omega arith;
          }

      pub taken-moved : (members : List ℕ) (numbers now : Numbers) → members ≡ y.class.members → AreRedirected members keep numbers now → AreMoved keep gone old numbers now
      taken-moved members numbers now e r w at = subst (λ ms. AreRedirected ms keep numbers now) (e ∙ ap (λ v. v.class.members) (same_some y w (taken ∙ at))) r

class-was : (nodes : Nodes) (key : ℕ) (c : Class) → class_at (slots_of nodes) key ≡ Some c → (x : Node) × (node_at nodes key ≡ Some x) × (x.class ≡ c)
class-was nodes key c at = elim (cases_option (node_at nodes key)) [
  | inl none ↦ absurd (let a : class_at (slots_of nodes) key ≡ None = slots-at nodes key ∙ ap (option_map (λ x. x.class)) none in cc)
  | inr x ↦ (x.0, x.1, same_some x.0.class c (sym (slots-at nodes key ∙ ap (option_map (λ z. z.class)) x.1) ∙ at))
]

pub classes-joined : (keep gone : ℕ) (old new : Nodes) (numbers now : Numbers) → AreNodesJoined keep gone numbers old new → AreMoved keep gone old numbers now
    → AreClassesJoined keep gone (slots_of old) (slots_of new) numbers now
classes-joined keep gone old new numbers now joined moved c d at-c at-d =
    let x = class-was old keep c at-c in
    let y = class-was old gone d at-d in
    let j = joined x.0 y.0 x.1 y.1 in
    record {
      here = slots-at new keep ∙ ap (option_map (λ z. z.class)) j.here ∙ ap (λ e. Some e) (j.class ∙ ap (λ e. joined_class e y.0.class) x.2 ∙ ap (joined_class c) y.2);
      none = slots-at new gone ∙ ap (option_map (λ z. z.class)) j.none;
      others = λ k d g. slots-at new k ∙ ap (option_map (λ z. z.class)) (j.others k d g) ∙ sym (slots-at old k);
      numbers = rw (sym y.2) (moved y.0 y.1);
    }

-- the same of classes, where before and after that but ready sets and counts have changed
pub classes-kept : (keep gone : ℕ) (first old new last : Nodes) (numbers now : Numbers) → KeepsBare first old → KeepsBare new last → AreClassesJoined keep gone (slots_of old) (slots_of new) numbers now
    → AreClassesJoined keep gone (slots_of first) (slots_of last) numbers now
classes-kept keep gone first old new last numbers now a b joined =
    subst (λ slots. AreClassesJoined keep gone slots (slots_of last) numbers now) (slots-bare first old a) (subst (λ slots. AreClassesJoined keep gone (slots_of old) slots numbers now) (sym (slots-bare new last b)) joined)
