-- Two classes that may be made one.
use Rattle.std.proofs.Common.{◌≡◌, ℕ, ◌∙◌, inl, inr, true, false, refl, sym, ap, Option, Some, None}
use Rattle.std.specs.Prelude.{◌==◌, ◌&&◌, not}
use Rattle.std.specs.Option.{option_map, option_map_or}
use Rattle.std.proofs.lemmas.Bool.{cases_eq, both_ways, eq-eqb, ne_eqb, and_from, and_parts, and_right}
use Rattle.patch_links.specs.State.{Links, Node, Nodes, Numbers, class_at, node_at, is_at, slots_of}
use Rattle.patch_links.specs.Waiting.{of_block}
use Rattle.patch_links.specs.Lists.{OfBlock, Blocks, of_at, ChangesOf, IsListed, IsSettled}
use Rattle.patch_links.specs.Invariants.{Stands}
use Rattle.patch_links.specs.Merging.{may_join, may_join_at, HasJoined}
use Rattle.patch_links.specs.Joining.{may_join_with, may_join_both, AreClassesJoinedIf, KeepsOrder, IsPair}
use Rattle.patch_links.proofs.Places.{is-at, at-is, same_some, slots-at}
use Rattle.patch_links.proofs.Launching.{settled-all}

-- whether two classes may be made one is the same of nodes and of slots
pub may-slots : (keep gone : ℕ) (nodes : Nodes) → may_join_at keep gone (slots_of nodes) ≡ may_join_both keep gone nodes
may-slots keep gone nodes =
    ap (λ o. not (keep == gone) && option_map_or (λ c. option_map_or (may_join c) (class_at (slots_of nodes) gone) false) o false) (slots-at nodes keep)
    ∙ ap (λ p. not (keep == gone) && option_map_or (λ c. option_map_or (may_join c) p false) (option_map (λ x. x.class) (node_at nodes keep)) false) (slots-at nodes gone)
    ∙ by (node_at nodes keep) (node_at nodes gone)
  where
    by : (o p : Option Node) → (not (keep == gone) && option_map_or (λ c. option_map_or (may_join c) (option_map (λ x. x.class) p) false) (option_map (λ x. x.class) o) false)
        ≡ option_map_or (λ x. not (keep == gone) && option_map_or (λ y. may_join x.class y.class) p false) o false
    by None p = and_right (not (keep == gone)) false refl
    by (Some x) None = refl
    by (Some x) (Some y) = refl

pub pair-from : (block keep gone : ℕ) (nodes : Nodes) → may_join_both keep gone nodes ≡ true → option_map (λ x. x.class.block) (node_at nodes keep) ≡ Some block → IsPair block keep gone nodes
pair-from block keep gone nodes t b =
    let x = at-is (λ v. not (keep == gone) && may_join_with nodes gone v.class) nodes keep t in
    let parts = and_parts (not (keep == gone)) (may_join_with nodes gone x.0.class) x.2 in
    let y = at-is (λ v. may_join x.0.class v.class) nodes gone parts.1 in
    record {
      apart = λ e. both_ways _ (ap not (eq-eqb keep gone e)) parts.0;
      one = x.0;
      other = y.0;
      at_keep = x.1;
      at_gone = y.1;
      may = y.2;
      of = same_some x.0.class.block block (sym (ap (option_map (λ v. v.class.block)) x.1) ∙ b);
    }

-- all classes and lists where but one block has been changed
pub stands-joined : (block : ℕ) (old new : Nodes) (numbers now : Numbers) (before after : Blocks) (of : OfBlock) → Stands old numbers before → ChangesOf block before after of → IsListed block new of → IsSettled of
    → KeepsOrder block old new numbers now → Stands new now after
stands-joined block old new numbers now before after of s c l t order =
    let tied = order.tied (record { members = s.members; linked = s.linked; counted = s.counted }) in
    record {
      members = tied.members;
      linked = tied.linked;
      counted = tied.counted;
      listed = λ b. elim (cases_eq b block) [
        | inl e ↦ rw (e, c.here) l
        | inr d ↦ rw (c.others b d) (order.aside b (of_at before b) d (s.listed b))
      ];
      settled = settled-all block before after of s.settled c t;
    }

pub has-joined : (keep gone : ℕ) (old new : Links) → AreClassesJoinedIf keep gone old.slots new.slots old.numbers new.numbers → HasJoined keep gone old new
has-joined keep gone old new joined c d apart at-c at-d may = joined (and_from _ _ (ap not (ne_eqb keep gone apart)) (ap (λ o. option_map_or (λ e. option_map_or (may_join e) (class_at old.slots gone) false) o false) at-c
    ∙ ap (λ o. option_map_or (may_join c) o false) at-d ∙ may)) c d at-c at-d

pub pair-of : (block keep gone : ℕ) (nodes : Nodes) → IsPair block keep gone nodes → is_at (of_block block) nodes keep ≡ true
pair-of block keep gone nodes p = is-at (of_block block) nodes keep p.one p.at_keep ∙ eq-eqb p.one.class.block block p.of
