-- Numbers that are passed on to the followers of a class, one after another.
use Rattle.std.proofs.Common.{◌≡◌, ℕ, zero, suc, ◌+◌, ◌∙◌, Bool, true, false, List, [], ◌∷◌, length, refl, sym, ap, arith, Option, Some, None, drop}
use Rattle.std.specs.Prelude.{◌==◌, not, slice_get, if◌then◌else◌}
use Rattle.std.specs.Option.{option_map, option_map_or}
use Rattle.std.proofs.lemmas.Bool.{both_ways, eqb-true, and_parts, false_from_ne_true}
use Rattle.patch_links.specs.State.{Class, Node, Nodes, Numbers, leads_at, node_at, is_at, changed_at}
use Rattle.patch_links.specs.Waiting.{of_block, ready_in, AreOwed, AreLinked, is_other, passed_by, lowered, readied, passed_to, followers_at}
use Rattle.patch_links.specs.Lists.{OfBlock, IsListed}
use Rattle.patch_links.specs.Invariants.{bare, KeepsBare, KeepsRest, KeepsOwed, PaysOwed}
use Rattle.patch_links.proofs.Places.{same_some, is-at, changed-at, changed-long}
use Rattle.patch_links.proofs.Waits.{touches, passed-at, passed-long, none-turned, lower-owed, passed_by-none, owed-alike, owed-ready}

one-more : (i : ℕ) → i + 1 ≡ suc i
one-more i = omega arith

next-from : (xs : List ℕ) (i n : ℕ) → slice_get xs i ≡ Some n → drop i xs ≡ n ∷ drop (suc i) xs
next-from [] i n at = absurd (cc)
next-from (x ∷ xs) zero n at = ap (λ z. z ∷ xs) (same_some x n at)
next-from (x ∷ xs) (suc i) n at = next-from xs i n at

last-from : (xs : List ℕ) (i : ℕ) → slice_get xs i ≡ None → drop (suc i) xs ≡ drop i xs
last-from [] zero at = refl
last-from [] (suc i) at = refl
last-from (x ∷ xs) zero at = absurd (cc)
last-from (x ∷ xs) (suc i) at = last-from xs i at

pub drop-next : (xs : List ℕ) (i n : ℕ) → slice_get xs i ≡ Some n → drop i xs ≡ n ∷ drop (i + 1) xs
drop-next xs i n at = next-from xs i n at ∙ ap (λ j. n ∷ drop j xs) (sym (one-more i))

pub drop-last : (xs : List ℕ) (i : ℕ) → slice_get xs i ≡ None → drop (i + 1) xs ≡ drop i xs
drop-last xs i at = ap (λ j. drop j xs) (one-more i) ∙ last-from xs i at

pub drop-all : (xs : List ℕ) (i : ℕ) → length xs ≡ i → drop i xs ≡ []
drop-all [] zero at = refl
drop-all [] (suc i) at = refl
drop-all (x ∷ xs) zero at = absurd (omega arith)
drop-all (x ∷ xs) (suc i) at = drop-all xs i (omega arith)

pub bare-same : (nodes : Nodes) → KeepsBare nodes nodes
bare-same nodes = record { long = refl; bare = λ k. refl }

pub rest-same : (block : ℕ) (nodes : Nodes) → KeepsRest block nodes nodes
rest-same block nodes = record { all = bare-same nodes; others = λ k t. refl }

pub bare-then : (a b c : Nodes) → KeepsBare a b → KeepsBare b c → KeepsBare a c
bare-then a b c p q = record { long = q.long ∙ p.long; bare = λ k. q.bare k ∙ p.bare k }

pub rest-then : (block : ℕ) (a b c : Nodes) → KeepsRest block a b → KeepsRest block b c → KeepsRest block a c
rest-then block a b c p q = record {
  all = bare-then a b c p.all q.all;
  others = λ k t. q.others k (ap (λ o. option_map_or (of_block block) o false) (p.others k t) ∙ t) ∙ p.others k t;
}

-- a change of a node's part in ready sets, under a test that passes nodes of the block alone
turned-rest : (block : ℕ) (change : Node → Node) (test : ℕ → Node → Bool) (old new : Nodes) → ((x : Node) → bare (change x) ≡ bare x) → length new ≡ length old
    → ((k : ℕ) → node_at new k ≡ option_map (λ x. if test k x then change x else x) (node_at old k)) → ((k : ℕ) (x : Node) → node_at old k ≡ Some x → test k x ≡ true → (x.class.block == block) ≡ true)
    → KeepsRest block old new
turned-rest block change test old new keeps long at of = record {
  all = record { long = long; bare = λ k. ap (option_map bare) (at k) ∙ by (test k) (node_at old k) };
  others = λ k t. at k ∙ none-turned change (test k) (node_at old k) (λ x here. false_from_ne_true _ (λ u. both_ways _ (sym (is-at (of_block block) old k x here) ∙ t) (of k x here u)));
}
  where
    bare-if : (b : Bool) (x : Node) → bare (if b then change x else x) ≡ bare x
    bare-if true x = keeps x
    bare-if false x = refl

    by : (b : Node → Bool) (o : Option Node) → option_map bare (option_map (λ x. if b x then change x else x) o) ≡ option_map bare o
    by b None = refl
    by b (Some x) = ap (λ z. Some z) (bare-if (b x) x)

pub passed-rest : (change : Node → Node) (numbers : Numbers) (from block : ℕ) (nodes : Nodes) (n : ℕ) → ((x : Node) → bare (change x) ≡ bare x)
    → KeepsRest block nodes (passed_to change numbers from block nodes n)
passed-rest change numbers from block nodes n keeps = turned-rest block change (touches numbers from block n) nodes (passed_to change numbers from block nodes n) keeps
    (passed-long change numbers from block nodes n) (passed-at change numbers from block nodes n)
    (λ k x at t. (and_parts (not (k == from)) (x.class.block == block) (and_parts (is_other from block k x.class) (leads_at numbers k n) t).0).1)

pub changed-rest : (change : Node → Node) (block : ℕ) (nodes : Nodes) (key : ℕ) → ((x : Node) → bare (change x) ≡ bare x) → is_at (of_block block) nodes key ≡ true
    → KeepsRest block nodes (changed_at change nodes key)
changed-rest change block nodes key keeps of = turned-rest block change (λ k x. k == key) nodes (changed_at change nodes key) keeps (changed-long change nodes key) (changed-at change nodes key)
    (λ k x at t. sym (is-at (of_block block) nodes k x at) ∙ ap (is_at (of_block block) nodes) (eqb-true k key t) ∙ of)

pub followers-kept : (old new : Nodes) (key : ℕ) → KeepsBare old new → followers_at new key ≡ followers_at old key
followers-kept old new key k = sym (by (node_at new key)) ∙ ap (option_map_list) (k.bare key) ∙ by (node_at old key)
  where
    option_map_list : Option Node → List ℕ
    option_map_list o = option_map_or (λ x. x.followers) o []

    by : (o : Option Node) → option_map_list (option_map bare o) ≡ option_map_list o
    by None = refl
    by (Some x) = refl

-- so far: of the followers of a class, the first ones were told
pub record ArePaid (block from : ℕ) (numbers : Numbers) (old new : Nodes) (before after : OfBlock) (place : ℕ) : Type 0 where
  pub listed : IsListed block new after
  pub done : after.done ≡ before.done
  pub count : after.count ≡ before.count
  pub rest : KeepsRest block old new
  pub paid : (debt : ℕ → Class → ℕ) → AreOwed old numbers (λ key c. debt key c + passed_by numbers from block (followers_at old from) key c)
      → AreOwed new numbers (λ key c. debt key c + passed_by numbers from block (drop place (followers_at old from)) key c)

pub paid-none : (block from : ℕ) (numbers : Numbers) (nodes : Nodes) (of : OfBlock) → IsListed block nodes of → ArePaid block from numbers nodes nodes of of 0
paid-none block from numbers nodes of l = record { listed = l; done = refl; count = refl; rest = rest-same block nodes; paid = λ debt h. h }

pub paid-more : (block from : ℕ) (numbers : Numbers) (old mid : Nodes) (before between after : OfBlock) (place n : ℕ) → ArePaid block from numbers old mid before between place
    → slice_get (followers_at mid from) place ≡ Some n → IsListed block (passed_to lowered numbers from block mid n) after → after.done ≡ between.done → after.count ≡ between.count
    → ArePaid block from numbers old (passed_to lowered numbers from block mid n) before after (place + 1)
paid-more block from numbers old mid before between after place n p at listed done count =
    let next : drop place (followers_at old from) ≡ n ∷ drop (place + 1) (followers_at old from) = drop-next (followers_at old from) place n (ap (λ xs. slice_get xs place) (sym (followers-kept old mid from p.rest.all)) ∙ at) in
    record {
      listed = listed;
      done = done ∙ p.done;
      count = count ∙ p.count;
      rest = rest-then block old mid (passed_to lowered numbers from block mid n) p.rest (passed-rest lowered numbers from block mid n (λ x. refl));
      paid = λ debt h. lower-owed numbers from block mid n (drop (place + 1) (followers_at old from)) debt
          (owed-alike mid numbers _ _ (λ key c. ap (λ xs. debt key c + passed_by numbers from block xs key c) next) (p.paid debt h));
    }

pub paid-skip : (block from : ℕ) (numbers : Numbers) (old mid : Nodes) (before between : OfBlock) (place : ℕ) → ArePaid block from numbers old mid before between place
    → slice_get (followers_at mid from) place ≡ None → ArePaid block from numbers old mid before between (place + 1)
paid-skip block from numbers old mid before between place p at =
    let next : drop (place + 1) (followers_at old from) ≡ drop place (followers_at old from) = drop-last (followers_at old from) place (ap (λ xs. slice_get xs place) (sym (followers-kept old mid from p.rest.all)) ∙ at) in
    record {
      listed = p.listed;
      done = p.done;
      count = p.count;
      rest = p.rest;
      paid = λ debt h. owed-alike mid numbers _ _ (λ key c. ap (λ xs. debt key c + passed_by numbers from block xs key c) (sym next)) (p.paid debt h);
    }

pub paid-all : (block from : ℕ) (numbers : Numbers) (old new : Nodes) (before after : OfBlock) (place : ℕ) → ArePaid block from numbers old new before after place
    → length (followers_at old from) ≡ place → PaysOwed numbers from block (followers_at old from) old new
paid-all block from numbers old new before after place p all debt h =
    owed-alike new numbers _ debt (λ key c.
    let none : passed_by numbers from block (drop place (followers_at old from)) key c ≡ 0 = ap (λ xs. passed_by numbers from block xs key c) (drop-all (followers_at old from) place all) ∙ passed_by-none numbers from block key c in
    omega arith) (p.paid debt h)

-- one class came into the ready set, and its followers were told
pub admitted-owed : (block key : ℕ) (numbers : Numbers) (old new : Nodes) → is_at (of_block block) old key ≡ true → is_at (ready_in block) old key ≡ false → AreLinked old numbers
    → PaysOwed numbers key block (followers_at (changed_at readied old key) key) (changed_at readied old key) new → KeepsOwed numbers old new
admitted-owed block key numbers old new of off linked paid debt h =
    let same : followers_at (changed_at readied old key) key ≡ followers_at old key = followers-kept old (changed_at readied old key) key (changed-rest readied block old key (λ x. refl) of).all in
    paid debt (owed-alike (changed_at readied old key) numbers _ _ (λ k c. ap (λ xs. debt k c + passed_by numbers key block xs k c) (sym same)) (owed-ready old numbers key block debt of off linked h))

-- so far: classes that came into the ready set
pub record AreAdmitted (block : ℕ) (numbers : Numbers) (old new : Nodes) (of : OfBlock) : Type 0 where
  pub listed : IsListed block new of
  pub rest : KeepsRest block old new
  pub owed : KeepsOwed numbers old new

pub admitted-none : (block : ℕ) (numbers : Numbers) (nodes : Nodes) (of : OfBlock) → IsListed block nodes of → AreAdmitted block numbers nodes nodes of
admitted-none block numbers nodes of l = record { listed = l; rest = rest-same block nodes; owed = λ debt h. h }

pub admitted-more : (block : ℕ) (numbers : Numbers) (old mid new : Nodes) (before after : OfBlock) → AreAdmitted block numbers old mid before → IsListed block new after → KeepsRest block mid new
    → KeepsOwed numbers mid new → AreAdmitted block numbers old new after
admitted-more block numbers old mid new before after p l r o = record { listed = l; rest = rest-then block old mid new p.rest r; owed = λ debt h. o debt (p.owed debt h) }
