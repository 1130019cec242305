-- What is known of orderly patches, by their places in the list.
use Rattle.std.proofs.Common.{◌≡◌, ℕ, ◌<◌, ◌≤◌, ◌⊎◌, true, List, length, arith}
use Rattle.patch_model.specs.Pile.{end}
use Rattle.patch_model.specs.Entry.{Entry, is_durable, is_flight, is_among}
use Rattle.patch_model.specs.Dependency.{depends_directly}
use Rattle.patch_model.specs.Ready.{IsRising}
use Rattle.patch_model.specs.Orderly.{IsOrderly, IsNumbered}
use Rattle.patch_model.specs.Member.{In, In-from_Contains, Contains-from_In}
use Rattle.patch_graph.specs.State.{Graph}
use Rattle.patch_graph.specs.Meaning.{IsGraphOf}

pub record IsOrdered (all : List Entry) : Type 0 where
  pub numbers : (e f : Entry) → In all e → In all f → e.patch.no ≡ f.patch.no → e ≡ f
  pub rising : IsRising all
  pub numbered : (e : Entry) → In all e → e.patch.no < length all
  pub made : (n : ℕ) → n < length all → (e : Entry) × In all e × (e.patch.no ≡ n)
  pub earlier : (e : Entry) (n : ℕ) → In all e → is_among e.patch.after n ≡ true → n < e.patch.no
  pub filled : (e : Entry) → In all e → e.patch.start < end e.patch
  pub alike : (e f : Entry) → In all e → In all f → e.class ≡ f.class → (e.mark ≡ f.mark) × (e.patch.block ≡ f.patch.block) × (e.hard ≡ f.hard)
  pub named : (e : Entry) → In all e → (f : Entry) × In all f × (f.patch.no ≡ e.class) × (f.class ≡ e.class)
  pub least : (e : Entry) → In all e → e.class ≤ e.patch.no
  pub durable : (e f : Entry) → In all e → In all f → depends_directly e.patch f.patch ≡ true → is_durable e ≡ true → is_durable f ≡ true
  pub flight : (e f : Entry) → In all e → In all f → depends_directly e.patch f.patch ≡ true → is_flight e ≡ true
      → (is_durable f ≡ true) ⊎ ((is_flight f ≡ true) × (f.patch.block ≡ e.patch.block))

pub ordered : (all : List Entry) → IsOrderly all → IsNumbered all → IsOrdered all
ordered all o n = record {
  numbers = λ e f i j s. o.apart e f (Contains-from_In all e i) (Contains-from_In all f j) s;
  rising = o.rising;
  numbered = λ e i. n.below e (Contains-from_In all e i);
  made = λ m h. let e = n.made m h in (e.0, In-from_Contains all e.0 e.1, e.2);
  earlier = λ e m i t. o.earlier e m (Contains-from_In all e i) t;
  filled = λ e i. let h = o.filled e (Contains-from_In all e i) in omega arith;
  alike = λ e f i j s. let l = o.alike e f (Contains-from_In all e i) (Contains-from_In all f j) s in (l.mark, l.block, l.hard);
  named = λ e i. let f = o.own e (Contains-from_In all e i) in (f.0, In-from_Contains all f.0 f.1.inside, f.1.number, f.1.name);
  least = λ e i. o.least e (Contains-from_In all e i);
  durable = λ e f i j d t. (o.under e f (Contains-from_In all e i) (Contains-from_In all f j) d).durable t;
  flight = λ e f i j d t. (o.under e f (Contains-from_In all e i) (Contains-from_In all f j) d).flight t;
}

pub known : (g : Graph) (all : List Entry) → IsGraphOf g all → IsOrdered all
known g all r = ordered all r.orderly r.numbered
