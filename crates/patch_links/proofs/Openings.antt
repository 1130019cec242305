-- Of which blocks a write can begin.
use Rattle.std.proofs.Common.{◌≡◌, ℕ, ◌∙◌, inl, inr, Bool, true, false, List, [], ◌∷◌, length, refl, sym, ap, arith, subst, Option, Some, None}
use Rattle.std.specs.Prelude.{◌==◌, ◌&&◌, not, slice_set, IfSome, IfNone}
use Rattle.std.specs.Option.{option_map, option_map_or}
use Rattle.std.proofs.lemmas.Bool.{cases_Bool, cases_eq, and_parts, and_from, both_ways, eqb-true, eq-eqb, false_from_ne_true}
use Rattle.patch_model.specs.Entry.{is_among, marks_flight}
use Rattle.patch_numbers.specs.BlockSets.{IsLeastFrom}
use Rattle.patch_links.specs.State.{Class, Node, Nodes, Numbers, class_at, slots_of, node_at, is_at}
use Rattle.patch_links.specs.Lists.{OfBlock, Blocks, lists_of, of_at, flying_in, is_open, AreOpen, IsLeastOpen, IsListed, IsSettled, LetsGo, LosesFlying, due_in, nothing, once, times}
use Rattle.patch_links.specs.Waiting.{is_due, of_block, ready_in}
use Rattle.patch_links.specs.Invariants.{Stands}
use Rattle.patch_links.specs.Ready.{TellsReady, IsOpen, IsShut, IsNextOpen}
use Rattle.patch_links.specs.MarkDurable.{HasPopped}
use Rattle.patch_links.proofs.Places.{cases_option, is-at, at-is, slots-at}
use Rattle.patch_links.proofs.Launching.{among-is}
use Rattle.patch_links.proofs.Landings.{some-class}
use Rattle.patch_links.proofs.Counts.{times-In}
use Rattle.patch_links.proofs.ReadySets.{no-key, some-key, tells-ready}
use Rattle.patch_links.proofs.BlockRows.{Rows, row_of, list-at, changes-in}

-- a class in flight was taken out of the block's list, if there is one
module _ (seen : Blocks) (rows : Rows) (block i : ℕ) (was now : OfBlock) (same : lists_of rows ≡ seen) (place : i ≡ block) (is : Some was ≡ row_of rows i) where
  pub popped-none : (found : Option ℕ) → IfNone found ((now ≡ was) × (was.flying ≡ [])) → IfNone found ((of_at seen block).flying ≡ [])
  popped-none None h = ap (λ (z : OfBlock). z.flying) (sym (list-at seen rows block i (Some was) same place is)) ∙ h.1
  popped-none (Some key) h = h

  pub popped-same : (found : Option ℕ) → IfNone found ((now ≡ was) × (was.flying ≡ [])) → IfNone found ((other : ℕ) → of_at (lists_of (slice_set rows i (Some now))) other ≡ of_at seen other)
  popped-same None h = λ other. elim (cases_eq other block) [
    | inl e ↦
        ap (of_at (lists_of (slice_set rows i (Some now)))) e ∙ (changes-in seen rows block i was now same place is).here ∙ h.0 ∙ list-at seen rows block i (Some was) same place is ∙ ap (of_at seen) (sym e)
    | inr d ↦ (changes-in seen rows block i was now same place is).others other d
  ]
  popped-same (Some key) h = h

  pub popped-some : (found : Option ℕ) → IfSome found (λ key. LosesFlying was now key) → IfSome found (λ key. HasPopped block seen (lists_of (slice_set rows i (Some now))) key)
  popped-some None h = h
  popped-some (Some key) h = record {
    left = now;
    loses = subst (λ (of : OfBlock). LosesFlying of now key) (list-at seen rows block i (Some was) same place is) h;
    changed = changes-in seen rows block i was now same place is;
  }

-- the node of a class
class-node : (nodes : Nodes) (key : ℕ) (c : Class) → class_at (slots_of nodes) key ≡ Some c → (x : Node) × (node_at nodes key ≡ Some x) × (x.class ≡ c)
class-node nodes key c at = elim (cases_option (node_at nodes key)) [
  | inl none ↦ absurd (let z : class_at (slots_of nodes) key ≡ None = slots-at nodes key ∙ ap (option_map (λ x. x.class)) none in cc)
  | inr x ↦ (x.0, x.1, ap (λ o. option_map_or (λ z. z) o c) (sym (slots-at nodes key ∙ ap (option_map (λ x. x.class)) x.1) ∙ at))
]

module _ (block : ℕ) (nodes : Nodes) (numbers : Numbers) (blocks : Blocks) (s : Stands nodes numbers blocks) where
  abbrev of : OfBlock
  of = of_at blocks block

  told : TellsReady (slots_of nodes) numbers block (not (length of.ready == 0))
  told = tells-ready block nodes numbers blocks s of.ready (length of.ready == 0) refl refl

  flying-at : (key : ℕ) → is_among of.flying key ≡ is_at (flying_in block) nodes key
  flying-at key = among-is (flying_in block) nodes of.flying (s.listed block).flying key

  open-tells : is_open of ≡ true → IsOpen (slots_of nodes) numbers block
  open-tells t =
      let p = and_parts (not (length of.ready == 0)) (length of.flying == 0) t in record {
        ready = subst (TellsReady (slots_of nodes) numbers block) p.0 told;
        still = λ key c at here. false_from_ne_true _ (λ flies.
            let x = class-node nodes key c at in
            let is : is_at (flying_in block) nodes key ≡ true = is-at (flying_in block) nodes key x.0 x.1
            ∙ and_from _ _ (eq-eqb x.0.class.block block (ap (λ z. z.block) x.2 ∙ here)) (ap (λ z. marks_flight z.mark) x.2 ∙ flies) in
            both_ways _ (no-key of.flying key p.1) (flying-at key ∙ is));
      }

  shut-tells : is_open of ≡ false → IsShut (slots_of nodes) numbers block
  shut-tells f = elim (cases_Bool (length of.ready == 0)) [
    | inl none ↦ inl (subst (TellsReady (slots_of nodes) numbers block) (ap not none) told)
    | inr some ↦ elim (cases_Bool (length of.flying == 0)) [
      | inl still ↦ absurd (both_ways _ f (and_from _ _ (ap not some) still))
      | inr flies ↦
          let k = some-key of.flying flies in
          let x = at-is (flying_in block) nodes k.0 (sym (flying-at k.0) ∙ k.1) in
          let p = and_parts (x.0.class.block == block) (marks_flight x.0.class.mark) x.2 in
          inr (k.0, x.0.class, slots-at nodes k.0 ∙ ap (option_map (λ z. z.class)) x.1, eqb-true x.0.class.block block p.0, p.1)
    ]
  ]

pub next-open : (nodes : Nodes) (numbers : Numbers) (blocks : Blocks) (from : ℕ) (found : Option ℕ) → Stands nodes numbers blocks → IsLeastOpen blocks from found
    → IsNextOpen (slots_of nodes) numbers from found
next-open nodes numbers blocks from None s none = λ b above low. shut-tells b nodes numbers blocks s (none b above low)
next-open nodes numbers blocks from (Some least) s (above, low, here, none) =
    (above, low, open-tells least nodes numbers blocks s here, λ b up under. shut-tells b nodes numbers blocks s (none b up under))

-- the lists of those that the set has
pub least-open : (words : List ℕ) (blocks : Blocks) (from : ℕ) (found : Option ℕ) → AreOpen words blocks → IsLeastFrom words from found → IsLeastOpen blocks from found
least-open words blocks from None are none = λ b above low. sym (are b low) ∙ none b above
least-open words blocks from (Some least) are (above, low, here, none) = (above, low, sym (are least low) ∙ here, λ b up under. sym (are b (omega arith)) ∙ none b up under)

-- lists that let their blocks go which have no class are still those of the classes
module _ (block : ℕ) (nodes : Nodes) (of : OfBlock) (l : IsListed block nodes of) (none : of.count ≡ 0) where
  -- no class of the block passes any test
  no-class : (test : Node → Bool) (key : ℕ) → ((x : Node) → test x ≡ true → of_block block x ≡ true) → is_at test nodes key ≡ false
  no-class test key within = false_from_ne_true _ (λ t.
      let x = at-is test nodes key t in
      let most = some-class block key nodes (is-at (of_block block) nodes key x.0 x.1 ∙ within x.0 x.2) in
      let c = l.counted in absurd (omega arith))

  pub listed-nothing : IsListed block nodes nothing
  listed-nothing = record {
    due = λ key. sym (ap once (no-class (due_in block) key (λ x t. (and_parts (x.class.block == block) (is_due x) t).0)));
    ready = λ key. sym (ap once (no-class (ready_in block) key (λ x t. (and_parts (x.class.block == block) x.ready t).0)));
    flying = λ key. sym (ap once (no-class (flying_in block) key (λ x t. (and_parts (x.class.block == block) (marks_flight x.class.mark) t).0)));
    counted = sym none ∙ l.counted;
    within = omega arith;
    room_ready = omega arith;
    room_flying = omega arith;
  }

  shut-by : (ready : List ℕ) → of.ready ≡ ready → is_open of ≡ false
  shut-by [] is = ap (λ (ks : List ℕ). not (length ks == 0) && length of.flying == 0) is
  shut-by (k ∷ ready) is =
      let first = times-In (k ∷ ready) k (inl refl) in
      let same : times (k ∷ ready) k ≡ 0 = ap (λ (ks : List ℕ). times ks k) (sym is) ∙ l.due k ∙ ap once (no-class (due_in block) k (λ x t. (and_parts (x.class.block == block) (is_due x) t).0)) in
      absurd (omega arith)

  pub none-open : is_open of ≡ false
  none-open = shut-by of.ready refl

pub stands-let-go : (nodes : Nodes) (numbers : Numbers) (old new : Blocks) → Stands nodes numbers old → LetsGo old new → Stands nodes numbers new
stands-let-go nodes numbers old new s go = record {
  members = s.members;
  linked = s.linked;
  counted = s.counted;
  listed = λ b. elim (go b) [
    | inl same ↦ subst (IsListed b nodes) (sym same) (s.listed b)
    | inr none ↦ subst (IsListed b nodes) (sym none.1) (listed-nothing b nodes (of_at old b) (s.listed b) none.0)
  ];
  settled = λ b. elim (go b) [
    | inl same ↦ subst IsSettled (sym same) (s.settled b)
    | inr none ↦ subst IsSettled (sym none.1) refl
  ];
}
