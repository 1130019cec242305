-- What classes wait for, before and after a step.
use Rattle.std.proofs.Common.{◌≡◌, ℕ, ◌+◌, ◌≤◌, ◌⊎◌, ◌∙◌, inl, inr, Bool, true, false, List, [], ◌∷◌, length, refl, sym, ap, arith, Option, Some, None}
use Rattle.std.specs.Prelude.{◌==◌, ◌≢◌, ◌-◌, ◌&&◌, not, count_by, nat_lt, if◌then◌else◌}
use Rattle.std.specs.Option.{option_map, option_map_or}
use Rattle.std.proofs.lemmas.Bool.{cases_Bool, cases_eq, both_ways, eq-eqb, eqb-true, ne_eqb, and_from, and_parts, and_left, and_right, lt-ltb}
use Rattle.std.proofs.lemmas.List.Sums.{count_by-le-length}
use Rattle.patch_links.specs.State.{Class, Node, Nodes, Numbers, find, leads_at, node_at, is_at, changed_at}
use Rattle.patch_links.specs.Waiting.{of_block, ready_in, is_unmet, unmet_of, AreOwed, AreOwing, AreCounted, AreLinked, is_other, passed_by, lowered, raised, readied, unreadied, changed_if_other, passed_to, followers_at}
use Rattle.patch_links.specs.Lists.{once}
use Rattle.patch_links.specs.Invariants.{bare, KeepsBare}
use Rattle.patch_links.proofs.Counts.{count-cons, count-same, count-split}
use Rattle.patch_links.proofs.Places.{cases_option, same_some, is-at, at-is, changed-at, changed-here, changed-else, changed-long, is-changed}

-- two tests that agree on what is there
pub tests-alike : (change : Node → Node) (b c : Node → Bool) (o : Option Node) → ((x : Node) → o ≡ Some x → b x ≡ c x)
    → option_map (λ x. if b x then change x else x) o ≡ option_map (λ x. if c x then change x else x) o
tests-alike change b c None same = refl
tests-alike change b c (Some x) same = ap (λ t. Some (if t then change x else x)) (same x refl)

pub same_map : (o : Option Node) → option_map (λ x. x) o ≡ o
same_map None = refl
same_map (Some x) = refl

pub none-turned : (change : Node → Node) (b : Node → Bool) (o : Option Node) → ((x : Node) → o ≡ Some x → b x ≡ false) → option_map (λ x. if b x then change x else x) o ≡ o
none-turned change b o none = tests-alike change b (λ x. false) o none ∙ same_map o

-- the class waits for the number that is passed on
abbrev pub touches : Numbers → ℕ → ℕ → ℕ → ℕ → Node → Bool
touches numbers from block n key x = is_other from block key x.class && leads_at numbers key n

-- each key's node after a number was passed on
pub passed-at : (change : Node → Node) (numbers : Numbers) (from block : ℕ) (nodes : Nodes) (n key : ℕ)
    → node_at (passed_to change numbers from block nodes n) key ≡ option_map (λ x. if touches numbers from block n key x then change x else x) (node_at nodes key)
passed-at change numbers from block nodes n key = elim (cases_option (find numbers n)) [
  | inl none ↦ ap (λ o. node_at (option_map_or (changed_if_other change from block nodes) o nodes) key) none
      ∙ sym (none-turned change (touches numbers from block n key) (node_at nodes key)
      (λ x at. and_right (is_other from block key x.class) (leads_at numbers key n) (ap (λ o. option_map_or (λ k. k == key) o false) none)))
  | inr j ↦
      let leads : leads_at numbers key n ≡ (j.0 == key) = ap (λ o. option_map_or (λ k. k == key) o false) j.1 in
      ap (λ o. node_at (option_map_or (changed_if_other change from block nodes) o nodes) key) j.1 ∙ elim (cases_Bool (not (j.0 == from) && is_at (of_block block) nodes j.0)) [
        | inl t ↦ ap (λ b. node_at (if b then changed_at change nodes j.0 else nodes) key) t ∙ changed-at change nodes j.0 key
            ∙ tests-alike change (λ x. key == j.0) (touches numbers from block n key) (node_at nodes key) (λ x at. elim (cases_eq key j.0) [
              | inl e ↦
                  let parts = and_parts (not (j.0 == from)) (is_at (of_block block) nodes j.0) t in
                  let other : is_other from block key x.class ≡ true = and_from _ _ (ap (λ k. not (k == from)) e ∙ parts.0) (sym (is-at (of_block block) nodes key x at) ∙ ap (is_at (of_block block) nodes) e ∙ parts.1) in
                  eq-eqb key j.0 e ∙ sym (and_from _ _ other (leads ∙ eq-eqb j.0 key (sym e)))
              | inr d ↦ ne_eqb key j.0 d ∙ sym (and_right (is_other from block key x.class) _ (leads ∙ ne_eqb j.0 key (λ e. d (sym e))))
            ])
        | inr t ↦ ap (λ b. node_at (if b then changed_at change nodes j.0 else nodes) key) t
            ∙ sym (none-turned change (touches numbers from block n key) (node_at nodes key) (λ x at. elim (cases_eq key j.0) [
              | inl e ↦ and_left (is_other from block key x.class) _ (ap (λ b. not (key == from) && b) (sym (is-at (of_block block) nodes key x at)) ∙ ap (λ k. not (k == from) && is_at (of_block block) nodes k) e ∙ t)
              | inr d ↦ and_right (is_other from block key x.class) _ (leads ∙ ne_eqb j.0 key (λ e. d (sym e)))
            ]))
      ]
]

pub passed-long : (change : Node → Node) (numbers : Numbers) (from block : ℕ) (nodes : Nodes) (n : ℕ) → length (passed_to change numbers from block nodes n) ≡ length nodes
passed-long change numbers from block nodes n = elim (cases_option (find numbers n)) [
  | inl none ↦ ap (λ o. length (option_map_or (changed_if_other change from block nodes) o nodes)) none
  | inr j ↦ ap (λ o. length (option_map_or (changed_if_other change from block nodes) o nodes)) j.1 ∙ elim (cases_Bool (not (j.0 == from) && is_at (of_block block) nodes j.0)) [
    | inl t ↦ ap (λ b. length (if b then changed_at change nodes j.0 else nodes)) t ∙ changed-long change nodes j.0
    | inr t ↦ ap (λ b. length (if b then changed_at change nodes j.0 else nodes)) t
  ]
]

-- what was where something is now
pub now-was : (change : Node → Node) (o p : Option Node) (y : Node) → p ≡ option_map change o → p ≡ Some y → (x : Node) × (o ≡ Some x) × (y ≡ change x)
now-was change None p y e at = absurd (cc)
now-was change (Some x) p y e at = (x, refl, same_some y (change x) (sym at ∙ e))

-- a test that a change of nodes doesn't touch
pub tested-alike : (test : Node → Bool) (change : Node → Node) (old new : Nodes) (key : ℕ) → node_at new key ≡ option_map change (node_at old key)
    → ((x : Node) → test (change x) ≡ test x) → is_at test new key ≡ is_at test old key
tested-alike test change old new key e same = ap (λ o. option_map_or test o false) e ∙ by (node_at old key)
  where
    by : (o : Option Node) → option_map_or test (option_map change o) false ≡ option_map_or test o false
    by None = refl
    by (Some x) = same x

-- a field that a change keeps, it keeps where it is made under a test
pub kept-if : {X : Type 0} → (get : Node → X) (change : Node → Node) (b : Bool) (x : Node) → get (change x) ≡ get x → get (if b then change x else x) ≡ get x
kept-if get change true x e = e
kept-if get change false x e = refl

pub unmet-alike : (old new : Nodes) (numbers : Numbers) (key : ℕ) (c : Class) → ((j : ℕ) → is_at (ready_in c.block) new j ≡ is_at (ready_in c.block) old j)
    → unmet_of new numbers key c ≡ unmet_of old numbers key c
unmet-alike old new numbers key c same = count-same (is_unmet new numbers key c.block) (is_unmet old numbers key c.block) c.after (λ n. by (find numbers n))
  where
    by : (o : Option ℕ) → option_map_or (λ j. not (j == key) && not (is_at (ready_in c.block) new j)) o false ≡ option_map_or (λ j. not (j == key) && not (is_at (ready_in c.block) old j)) o false
    by None = refl
    by (Some j) = ap (λ b. not (j == key) && not b) (same j)

pub passed_by-cons : (numbers : Numbers) (from block n : ℕ) (rest : List ℕ) (key : ℕ) (x : Node)
    → passed_by numbers from block (n ∷ rest) key x.class ≡ once (touches numbers from block n key x) + passed_by numbers from block rest key x.class
passed_by-cons numbers from block n rest key x = by (is_other from block key x.class)
  where
    by : (b : Bool) → (if b then count_by (leads_at numbers key) (n ∷ rest) else 0) ≡ once (b && leads_at numbers key n) + (if b then count_by (leads_at numbers key) rest else 0)
    by true = count-cons (leads_at numbers key) n rest
    by false = refl

pub passed_by-none : (numbers : Numbers) (from block key : ℕ) (c : Class) → passed_by numbers from block [] key c ≡ 0
passed_by-none numbers from block key c = by (is_other from block key c)
  where
    by : (b : Bool) → (if b then count_by (leads_at numbers key) [] else 0) ≡ 0
    by true = refl
    by false = refl

-- whatever was passed on, ready sets are the same
pub ready-passed : (change : Node → Node) (numbers : Numbers) (from block : ℕ) (nodes : Nodes) (n b key : ℕ) → ((x : Node) → ready_in b (change x) ≡ ready_in b x)
    → is_at (ready_in b) (passed_to change numbers from block nodes n) key ≡ is_at (ready_in b) nodes key
ready-passed change numbers from block nodes n b key same = tested-alike (ready_in b) (λ x. if touches numbers from block n key x then change x else x) nodes (passed_to change numbers from block nodes n) key
    (passed-at change numbers from block nodes n key) (λ x. kept-if (ready_in b) change (touches numbers from block n key x) x (same x))

-- one number is lowered
pub lower-owed : (numbers : Numbers) (from block : ℕ) (nodes : Nodes) (n : ℕ) (rest : List ℕ) (debt : ℕ → Class → ℕ)
    → AreOwed nodes numbers (λ key c. debt key c + passed_by numbers from block (n ∷ rest) key c)
    → AreOwed (passed_to lowered numbers from block nodes n) numbers (λ key c. debt key c + passed_by numbers from block rest key c)
lower-owed numbers from block nodes n rest debt h key y at =
    let new : Nodes = passed_to lowered numbers from block nodes n in
    let was = now-was (λ x. if touches numbers from block n key x then lowered x else x) (node_at nodes key) (node_at new key) y (passed-at lowered numbers from block nodes n key) at in
    let x = was.0 in
    let owed = h key x was.1 in
    let cons = passed_by-cons numbers from block n rest key x in
    let same = unmet-alike nodes new numbers key x.class (λ j. ready-passed lowered numbers from block nodes n x.class.block j (λ z. refl)) in
    elim (cases_Bool (touches numbers from block n key x)) [
      | inl t ↦
          let is : y ≡ lowered x = was.2 ∙ ap (λ b. if b then lowered x else x) t in
          let one : once (touches numbers from block n key x) ≡ 1 = ap once t in
          rw is (let e : x.waits - 1 ≡ unmet_of new numbers key x.class + (debt key x.class + passed_by numbers from block rest key x.class) = omega arith in e)
      | inr t ↦
          let is : y ≡ x = was.2 ∙ ap (λ b. if b then lowered x else x) t in
          let one : once (touches numbers from block n key x) ≡ 0 = ap once t in
          rw is (let e : x.waits ≡ unmet_of new numbers key x.class + (debt key x.class + passed_by numbers from block rest key x.class) = omega arith in e)
    ]

-- what classes owe, told in another way
pub owing-alike : (nodes : Nodes) (numbers : Numbers) (debt other : ℕ → Class → ℕ) → ((key : ℕ) (c : Class) → debt key c ≡ other key c) → AreOwing nodes numbers debt → AreOwing nodes numbers other
owing-alike nodes numbers debt other same h key x at = ap (λ n. x.waits + n) (sym (same key x.class)) ∙ h key x at

-- a class that owes a number waits for one more once it is raised
pub raised-up : (numbers : Numbers) (from block : ℕ) (nodes : Nodes) (n : ℕ) (rest : List ℕ) (debt : ℕ → Class → ℕ) (key : ℕ) (x : Node)
    → AreOwing nodes numbers (λ k c. debt k c + passed_by numbers from block (n ∷ rest) k c) → node_at nodes key ≡ Some x → touches numbers from block n key x ≡ true → raised x ≡ record x { waits = x.waits + 1 }
raised-up numbers from block nodes n rest debt key x h at t =
    let owed = h key x at in
    let cons = passed_by-cons numbers from block n rest key x in
    let most : unmet_of nodes numbers key x.class ≤ length x.class.after = count_by-le-length (is_unmet nodes numbers key x.class.block) x.class.after in
    let one : once (touches numbers from block n key x) ≡ 1 = ap once t in
    let low : nat_lt x.waits (length x.class.after) ≡ true = lt-ltb x.waits (length x.class.after) (omega arith) in
    ap (λ b. record x { waits = if b then x.waits + 1 else x.waits }) low

-- one number is raised
pub raise-more : (numbers : Numbers) (from block : ℕ) (nodes : Nodes) (n : ℕ) (rest : List ℕ) (debt : ℕ → Class → ℕ)
    → AreOwing nodes numbers (λ key c. debt key c + passed_by numbers from block (n ∷ rest) key c)
    → AreOwing (passed_to raised numbers from block nodes n) numbers (λ key c. debt key c + passed_by numbers from block rest key c)
raise-more numbers from block nodes n rest debt h key y at =
    let new : Nodes = passed_to raised numbers from block nodes n in
    let was = now-was (λ x. if touches numbers from block n key x then raised x else x) (node_at nodes key) (node_at new key) y (passed-at raised numbers from block nodes n key) at in
    let x = was.0 in
    let owed = h key x was.1 in
    let cons = passed_by-cons numbers from block n rest key x in
    let same = unmet-alike nodes new numbers key x.class (λ j. ready-passed raised numbers from block nodes n x.class.block j (λ z. refl)) in
    elim (cases_Bool (touches numbers from block n key x)) [
      | inl t ↦
          let one : once (touches numbers from block n key x) ≡ 1 = ap once t in
          let is : y ≡ record x { waits = x.waits + 1 } = was.2 ∙ ap (λ b. if b then raised x else x) t ∙ raised-up numbers from block nodes n rest debt key x h was.1 t in
          rw is (let e : x.waits + 1 + (debt key x.class + passed_by numbers from block rest key x.class) ≡ unmet_of new numbers key x.class = omega arith in e)
      | inr t ↦
          let one : once (touches numbers from block n key x) ≡ 0 = ap once t in
          let is : y ≡ x = was.2 ∙ ap (λ b. if b then raised x else x) t in
          rw is (let e : x.waits + (debt key x.class + passed_by numbers from block rest key x.class) ≡ unmet_of new numbers key x.class = omega arith in e)
    ]

-- the same where nothing else is owed
pub raise-owing : (numbers : Numbers) (from block : ℕ) (nodes : Nodes) (n : ℕ) (rest : List ℕ) → AreOwing nodes numbers (passed_by numbers from block (n ∷ rest))
    → AreOwing (passed_to raised numbers from block nodes n) numbers (passed_by numbers from block rest)
raise-owing numbers from block nodes n rest h =
    owing-alike (passed_to raised numbers from block nodes n) numbers (λ key c. 0 + passed_by numbers from block rest key c) (passed_by numbers from block rest) (λ key c. omega arith)
    (raise-more numbers from block nodes n rest (λ key c. 0) (owing-alike nodes numbers (passed_by numbers from block (n ∷ rest)) (λ key c. 0 + passed_by numbers from block (n ∷ rest) key c) (λ key c. omega arith) h))

-- of the block, the class at the key is in the ready set of the one nodes and not of the others, and no other class differs
pub record IsFlipped (j block : ℕ) (lo hi : Nodes) : Type 0 where
  pub off : is_at (ready_in block) lo j ≡ false
  pub on : is_at (ready_in block) hi j ≡ true
  pub rest : (b i : ℕ) → (i ≢ j) ⊎ (b ≢ block) → is_at (ready_in b) hi i ≡ is_at (ready_in b) lo i

-- each other class of the block waits once more for each time that it depends on that one
pub unmet-moves : (j block : ℕ) (lo hi : Nodes) (numbers : Numbers) (followers : List ℕ) (key : ℕ) (c : Class) → IsFlipped j block lo hi
    → (key ≢ j → count_by (leads_at numbers key) followers ≡ count_by (leads_at numbers j) c.after)
    → unmet_of lo numbers key c ≡ unmet_of hi numbers key c + passed_by numbers j block followers key c
unmet-moves j block lo hi numbers followers key c f link = elim (cases_Bool (is_other j block key c)) [
  | inl t ↦
      let parts = and_parts (not (key == j)) (c.block == block) t in
      let apart : key ≢ j = λ e. both_ways _ (ap not (eq-eqb key j e)) parts.0 in
      let here : c.block ≡ block = eqb-true c.block block parts.1 in
      let split : (n : ℕ) → once (is_unmet hi numbers key c.block n) + once (leads_at numbers j n) ≡ once (is_unmet lo numbers key c.block n) = λ n. by apart here (find numbers n) in
      let both = count-split (is_unmet hi numbers key c.block) (leads_at numbers j) (is_unmet lo numbers key c.block) c.after split in
      let some : passed_by numbers j block followers key c ≡ count_by (leads_at numbers key) followers = ap (λ b. if b then count_by (leads_at numbers key) followers else 0) t in
      let l = link apart in omega arith
  | inr t ↦
      let none : passed_by numbers j block followers key c ≡ 0 = ap (λ b. if b then count_by (leads_at numbers key) followers else 0) t in
      let same : unmet_of lo numbers key c ≡ unmet_of hi numbers key c = count-same (is_unmet lo numbers key c.block) (is_unmet hi numbers key c.block) c.after (λ n. aside t (find numbers n)) in
      omega arith
]
  where
    test : Nodes → Option ℕ → Bool
    test nodes o = option_map_or (λ i. not (i == key) && not (is_at (ready_in c.block) nodes i)) o false

    by : key ≢ j → c.block ≡ block → (o : Option ℕ) → once (test hi o) + once (option_map_or (λ i. i == j) o false) ≡ once (test lo o)
    by apart here None = refl
    by apart here (Some i) = elim (cases_eq i j) [
      | inl e ↦
          let other : not (i == key) ≡ true = ap not (ne_eqb i key (λ d. apart (sym d ∙ e))) in
          let off : is_at (ready_in c.block) lo i ≡ false = ap (λ k. is_at (ready_in c.block) lo k) e ∙ ap (λ b. is_at (ready_in b) lo j) here ∙ f.off in
          let on : is_at (ready_in c.block) hi i ≡ true = ap (λ k. is_at (ready_in c.block) hi k) e ∙ ap (λ b. is_at (ready_in b) hi j) here ∙ f.on in
          let a : once (test hi (Some i)) ≡ 0 = ap once (and_right (not (i == key)) _ (ap not on)) in
          let b : once (i == j) ≡ 1 = ap once (eq-eqb i j e) in
          let d : once (test lo (Some i)) ≡ 1 = ap once (and_from _ _ other (ap not off)) in omega arith
      | inr d ↦
          let a : once (test hi (Some i)) ≡ once (test lo (Some i)) = ap (λ b. once (not (i == key) && not b)) (f.rest c.block i (inl d)) in
          let b : once (i == j) ≡ 0 = ap once (ne_eqb i j d) in omega arith
    ]

    aside : is_other j block key c ≡ false → (o : Option ℕ) → test lo o ≡ test hi o
    aside t None = refl
    aside t (Some i) = elim (cases_eq i j) [
      | inr d ↦ sym (ap (λ b. not (i == key) && not b) (f.rest c.block i (inl d)))
      | inl e ↦ elim (cases_eq key j) [
        | inl k ↦ and_left (not (i == key)) _ (ap not (eq-eqb i key (e ∙ sym k))) ∙ sym (and_left (not (i == key)) _ (ap not (eq-eqb i key (e ∙ sym k))))
        | inr k ↦ sym (ap (λ b. not (i == key) && not b) (f.rest c.block i (inr (λ here. both_ways _ t (and_from _ _ (ap not (ne_eqb key j k)) (eq-eqb c.block block here))))))
      ]
    ]

-- what is left of a node whose part in ready sets may have changed
pub bare-was : (old new : Nodes) (key : ℕ) (y : Node) → option_map bare (node_at new key) ≡ option_map bare (node_at old key) → node_at new key ≡ Some y
    → (x : Node) × (node_at old key ≡ Some x) × (y.class ≡ x.class) × (y.followers ≡ x.followers)
bare-was old new key y e at = elim (cases_option (node_at old key)) [
  | inl none ↦ let a : option_map bare (node_at new key) ≡ Some (bare y) = ap (option_map bare) at in let b : option_map bare (node_at old key) ≡ None = ap (option_map bare) none in absurd (cc)
  | inr x ↦
      let same : bare y ≡ bare x.0 = same_some (bare y) (bare x.0) (sym (ap (option_map bare) at) ∙ e ∙ ap (option_map bare) x.1) in
      (x.0, x.1, ap (λ z. z.class) same, ap (λ z. z.followers) same)
]

pub linked-kept : (old new : Nodes) (numbers : Numbers) → KeepsBare old new → AreLinked old numbers → AreLinked new numbers
linked-kept old new numbers k linked key j x y apart at at2 =
    let a = bare-was old new key x (k.bare key) at in
    let b = bare-was old new j y (k.bare j) at2 in
    ap (count_by (leads_at numbers key)) b.3 ∙ linked key j a.0 b.0 apart a.1 b.1 ∙ ap (λ c. count_by (leads_at numbers j) c.after) (sym a.2)

-- of another key or another block, ready sets are as they were, whatever becomes of a class of the block
pub ready-aside : (nodes : Nodes) (change : Node → Node) (key block : ℕ) → is_at (of_block block) nodes key ≡ true → ((x : Node) → (change x).class ≡ x.class)
    → (b i : ℕ) → (i ≢ key) ⊎ (b ≢ block) → is_at (ready_in b) (changed_at change nodes key) i ≡ is_at (ready_in b) nodes i
ready-aside nodes change key block of same b i apart = elim (cases_eq i key) [
  | inr d ↦ ap (λ o. option_map_or (ready_in b) o false) (changed-else change nodes key i d)
  | inl e ↦ elim apart [
    | inl d ↦ absurd (d e)
    | inr d ↦
        let x = at-is (of_block block) nodes key of in
        let now : node_at (changed_at change nodes key) key ≡ Some (change x.0) = changed-here change nodes key ∙ ap (option_map change) x.1 in
        let aside : (x.0.class.block == b) ≡ false = ne_eqb x.0.class.block b (λ s. d (sym s ∙ eqb-true x.0.class.block block x.2)) in
        rw e (is-at (ready_in b) (changed_at change nodes key) key (change x.0) now ∙ and_left _ _ (ap (λ c. c.block == b) (same x.0) ∙ aside)
        ∙ sym (is-at (ready_in b) nodes key x.0 x.1 ∙ and_left _ _ aside))
  ]
]

pub flipped-in : (nodes : Nodes) (key block : ℕ) → is_at (of_block block) nodes key ≡ true → is_at (ready_in block) nodes key ≡ false → IsFlipped key block nodes (changed_at readied nodes key)
flipped-in nodes key block of off = record {
  off = off;
  on = let x = at-is (of_block block) nodes key of in
      is-at (ready_in block) (changed_at readied nodes key) key (readied x.0) (changed-here readied nodes key ∙ ap (option_map readied) x.1) ∙ and_from _ _ x.2 refl;
  rest = ready-aside nodes readied key block of (λ x. refl);
}

pub flipped-out : (nodes : Nodes) (key block : ℕ) → is_at (of_block block) nodes key ≡ true → is_at (ready_in block) nodes key ≡ true → IsFlipped key block (changed_at unreadied nodes key) nodes
flipped-out nodes key block of on = record {
  off = let x = at-is (of_block block) nodes key of in
      is-at (ready_in block) (changed_at unreadied nodes key) key (unreadied x.0) (changed-here unreadied nodes key ∙ ap (option_map unreadied) x.1) ∙ and_right _ _ refl;
  on = on;
  rest = λ b i apart. sym (ready-aside nodes unreadied key block of (λ x. refl) b i apart);
}

-- what depends on the class at the key, where its followers are told
link-at : (nodes : Nodes) (numbers : Numbers) (j key block : ℕ) (x : Node) → is_at (of_block block) nodes j ≡ true → AreLinked nodes numbers → node_at nodes key ≡ Some x
    → key ≢ j → count_by (leads_at numbers key) (followers_at nodes j) ≡ count_by (leads_at numbers j) x.class.after
link-at nodes numbers j key block x of linked at apart =
    let y = at-is (of_block block) nodes j of in
    ap (count_by (leads_at numbers key)) (ap (λ o. option_map_or (λ z. z.followers) o []) y.1) ∙ linked key j x y.0 apart at y.1

-- the class comes into the ready set, and what depends on it waits for nothing more, once it was told
pub owed-ready : (nodes : Nodes) (numbers : Numbers) (j block : ℕ) (debt : ℕ → Class → ℕ) → is_at (of_block block) nodes j ≡ true → is_at (ready_in block) nodes j ≡ false
    → AreLinked nodes numbers → AreOwed nodes numbers debt → AreOwed (changed_at readied nodes j) numbers (λ key c. debt key c + passed_by numbers j block (followers_at nodes j) key c)
owed-ready nodes numbers j block debt of off linked owed key y at =
    let new : Nodes = changed_at readied nodes j in
    let was = now-was (λ x. if key == j then readied x else x) (node_at nodes key) (node_at new key) y (changed-at readied nodes j key) at in
    let x = was.0 in
    let class : y.class ≡ x.class = ap (λ z. z.class) was.2 ∙ kept-if (λ z. z.class) readied (key == j) x refl in
    let waits : y.waits ≡ x.waits = ap (λ z. z.waits) was.2 ∙ kept-if (λ z. z.waits) readied (key == j) x refl in
    let o = owed key x was.1 in
    let m = unmet-moves j block nodes new numbers (followers_at nodes j) key x.class (flipped-in nodes j block of off) (link-at nodes numbers j key block x of linked was.1) in
    rw class (let e : y.waits ≡ unmet_of new numbers key x.class + (debt key x.class + passed_by numbers j block (followers_at nodes j) key x.class) = omega arith in e)

-- the class leaves the ready set, and what depends on it waits for it, once it was told
pub unready-more : (nodes : Nodes) (numbers : Numbers) (j block : ℕ) (debt : ℕ → Class → ℕ) → is_at (of_block block) nodes j ≡ true → is_at (ready_in block) nodes j ≡ true
    → AreLinked nodes numbers → AreOwing nodes numbers debt → AreOwing (changed_at unreadied nodes j) numbers (λ key c. debt key c + passed_by numbers j block (followers_at nodes j) key c)
unready-more nodes numbers j block debt of on linked owing key y at =
    let new : Nodes = changed_at unreadied nodes j in
    let was = now-was (λ x. if key == j then unreadied x else x) (node_at nodes key) (node_at new key) y (changed-at unreadied nodes j key) at in
    let x = was.0 in
    let class : y.class ≡ x.class = ap (λ z. z.class) was.2 ∙ kept-if (λ z. z.class) unreadied (key == j) x refl in
    let waits : y.waits ≡ x.waits = ap (λ z. z.waits) was.2 ∙ kept-if (λ z. z.waits) unreadied (key == j) x refl in
    let o = owing key x was.1 in
    let m = unmet-moves j block new nodes numbers (followers_at nodes j) key x.class (flipped-out nodes j block of on) (link-at nodes numbers j key block x of linked was.1) in
    rw class (let e : y.waits + (debt key x.class + passed_by numbers j block (followers_at nodes j) key x.class) ≡ unmet_of new numbers key x.class = omega arith in e)

-- the same where nothing is owed yet
pub owing-unready : (nodes : Nodes) (numbers : Numbers) (j block : ℕ) → is_at (of_block block) nodes j ≡ true → is_at (ready_in block) nodes j ≡ true
    → AreLinked nodes numbers → AreCounted nodes numbers → AreOwing (changed_at unreadied nodes j) numbers (passed_by numbers j block (followers_at nodes j))
owing-unready nodes numbers j block of on linked counted =
    owing-alike (changed_at unreadied nodes j) numbers (λ key c. 0 + passed_by numbers j block (followers_at nodes j) key c) (passed_by numbers j block (followers_at nodes j)) (λ key c. omega arith)
    (unready-more nodes numbers j block (λ key c. 0) of on linked (λ key x at. let c = counted key x at in omega arith))

pub owed-alike : (nodes : Nodes) (numbers : Numbers) (debt other : ℕ → Class → ℕ) → ((key : ℕ) (c : Class) → debt key c ≡ other key c) → AreOwed nodes numbers debt → AreOwed nodes numbers other
owed-alike nodes numbers debt other same h key x at = h key x at ∙ ap (λ n. unmet_of nodes numbers key x.class + n) (same key x.class)

-- one class is lowered
pub lower-one : (numbers : Numbers) (nodes : Nodes) (j : ℕ) (debt : ℕ → Class → ℕ) → AreOwed nodes numbers (λ key c. debt key c + (if key == j then 1 else 0))
    → AreOwed (changed_at lowered nodes j) numbers debt
lower-one numbers nodes j debt h key y at =
    let new : Nodes = changed_at lowered nodes j in
    let was = now-was (λ x. if key == j then lowered x else x) (node_at nodes key) (node_at new key) y (changed-at lowered nodes j key) at in
    let x = was.0 in
    let owed = h key x was.1 in
    let same = unmet-alike nodes new numbers key x.class (λ i. is-changed (ready_in x.class.block) lowered nodes j i (λ z. refl)) in
    elim (cases_Bool (key == j)) [
      | inl t ↦
          let is : y ≡ lowered x = was.2 ∙ ap (λ b. if b then lowered x else x) t in
          let one : once (key == j) ≡ 1 = ap once t in
          rw is (let e : x.waits - 1 ≡ unmet_of new numbers key x.class + debt key x.class = omega arith in e)
      | inr t ↦
          let is : y ≡ x = was.2 ∙ ap (λ b. if b then lowered x else x) t in
          let one : once (key == j) ≡ 0 = ap once t in
          rw is (let e : x.waits ≡ unmet_of new numbers key x.class + debt key x.class = omega arith in e)
    ]
