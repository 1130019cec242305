-- One more class, and its part in the lists.
use Rattle.std.proofs.Common.{◌≡◌, ℕ, zero, suc, ◌+◌, ◌<◌, ◌⊎◌, ◌∙◌, inl, inr, Bool, true, false, List, [], ◌∷◌, ◌++◌, refl, sym, ap, arith, Option, Some, None, length-append}
use Rattle.std.specs.Prelude.{◌==◌, ◌≢◌, ◌&&◌, ◌||◌, not, slice_set, count_by, cond}
use Rattle.std.specs.Option.{option_map, option_map_or}
use Rattle.std.proofs.lemmas.Bool.{cases_Bool, cases_eq, both_ways, eq-eqb, eqb-true, ne_eqb, and_left, and_right, false_from_ne_true}
use Rattle.std.proofs.lemmas.List.{get_or-set_same, get_or-set_other, take-append-le}
use Rattle.std.proofs.lemmas.List.Sums.{sum_by-set}
use Rattle.patch_model.specs.Entry.{is_among, marks_flight}
use Rattle.patch_model.specs.Member.{In, among-In, In-among}
use Rattle.patch_links.specs.State.{Class, Node, Nodes, Numbers, find, slots_of, leads_at, node_at, is_at}
use Rattle.patch_links.specs.Waiting.{of_block, ready_in, is_due, is_unmet, unmet_of, AreCounted, AreLinked}
use Rattle.patch_links.specs.Lists.{OfBlock, Blocks, of_at, times, once, due_in, flying_in, classes_of, IsListed, AreListed, AreSettled, pushed, ChangesOf}
use Rattle.patch_links.specs.Invariants.{has_member, names, AreMembers, AreBelow, KeepsBare, KeepsRest, Stands}
use Rattle.patch_links.specs.Adding.{IsNewClass, told, retold, AreFollowed, unfollowed, IsNewcomer, HasPut}
use Rattle.patch_links.proofs.Counts.{count-last, count-same-in, count-none}
use Rattle.patch_links.proofs.Places.{same_some, is-at, at-is, below-nodes, slots-at, passes, count-free}
use Rattle.patch_links.proofs.Waits.{now-was, linked-kept}
use Rattle.patch_links.proofs.Keeping.{bare-plain, members-kept, below-kept}
use Rattle.patch_links.proofs.Listings.{AreAlike, listed-alike, alike-others}
use Rattle.patch_links.proofs.Landed.{class-bare}

module _ (block key : ℕ) (old new : Nodes) (n : IsNewcomer block key old new) where
  others-test : (test : Node → Bool) → ((x : Node) → test (unfollowed x) ≡ test x) → (k : ℕ) → k ≢ key → is_at test new k ≡ is_at test old k
  others-test test same k d = sym (by (node_at new k)) ∙ ap (λ o. option_map_or test o false) (n.others k d) ∙ by (node_at old k)
    where
      by : (o : Option Node) → option_map_or test (option_map unfollowed o) false ≡ option_map_or test o false
      by None = refl
      by (Some x) = same x

  here-off : (test : Node → Bool) → test n.node ≡ false → is_at test new key ≡ is_at test old key
  here-off test off = is-at test new key n.node n.here ∙ off ∙ sym (ap (λ o. option_map_or test o false) n.vacant)

  test-all : (test : Node → Bool) → ((x : Node) → test (unfollowed x) ≡ test x) → test n.node ≡ false → (k : ℕ) → is_at test new k ≡ is_at test old k
  test-all test same off k = elim (cases_eq k key) [ inl e ↦ rw e (here-off test off) | inr d ↦ others-test test same k d ]

  not-flying : marks_flight n.node.class.mark ≡ false
  not-flying = ap marks_flight n.memory

  due-here : is_at (due_in block) new key ≡ is_at is_due new key
  due-here = is-at (due_in block) new key n.node n.here ∙ ap (λ b. b && is_due n.node) (eq-eqb n.node.class.block block n.of) ∙ sym (is-at is_due new key n.node n.here)

  -- of another block nothing has changed
  pub newcomer-aside : (b : ℕ) → b ≢ block → AreAlike b old new
  newcomer-aside b d =
      let off : (n.node.class.block == b) ≡ false = ne_eqb n.node.class.block b (λ e. d (sym e ∙ n.of)) in
      record {
        due = test-all (due_in b) (λ x. refl) (and_left _ _ off);
        ready = test-all (ready_in b) (λ x. refl) (and_left _ _ off);
        flying = test-all (flying_in b) (λ x. refl) (and_left _ _ off);
        of = test-all (of_block b) (λ x. refl) off;
      }

  one-class-more : classes_of block new ≡ classes_of block old + 1
  one-class-more =
      let low = below-nodes new key n.node n.here in
      let e = sum_by-set {X = Option Node} (λ o. cond (passes (of_block block) o) 1 0) new key None None low in
      let was : once (passes (of_block block) (node_at new key)) ≡ 1 = ap once (is-at (of_block block) new key n.node n.here ∙ eq-eqb n.node.class.block block n.of) in
      let less : Nodes = slice_set new key None in
      let same : classes_of block less ≡ classes_of block old = count-free (of_block block) old less (λ k. elim (cases_eq k key) [
        | inl h ↦ ap (λ o. option_map_or (of_block block) o false) (ap (node_at less) h ∙ get_or-set_same new key None None low) ∙ sym (ap (λ o. option_map_or (of_block block) o false) (ap (node_at old) h ∙ n.vacant))
        | inr d ↦ ap (λ o. option_map_or (of_block block) o false) (get_or-set_other new key k None None d) ∙ others-test (of_block block) (λ x. refl) k d
      ]) in
      omega (arith, e, was, same)

  pub listed-waiting : (of : OfBlock) → IsListed block old of → of.count < of.room_ready → of.count < of.room_flying → is_at is_due new key ≡ false → IsListed block new (record of { count = of.count + 1 })
  listed-waiting of l r f off =
      let counted = l.counted in
      let more = one-class-more in
      record {
        due = λ k. l.due k ∙ sym (ap once (test-all (due_in block) (λ x. refl) (sym (is-at (due_in block) new key n.node n.here) ∙ due-here ∙ off) k));
        ready = λ k. l.ready k ∙ sym (ap once (test-all (ready_in block) (λ x. refl) (and_right _ _ n.ready) k));
        flying = λ k. l.flying k ∙ sym (ap once (test-all (flying_in block) (λ x. refl) (and_right _ _ not-flying) k));
        counted = omega arith;
        within = l.within;
        room_ready = omega arith;
        room_flying = omega arith;
      }

  pub listed-coming : (of : OfBlock) → IsListed block old of → of.count < of.room_ready → of.count < of.room_flying → is_at is_due new key ≡ true
      → IsListed block new (pushed (record of { count = of.count + 1 }) key)
  listed-coming of l r f on =
      let counted = l.counted in
      let more = one-class-more in
      let within = l.within in
      let long = length-append of.ready (key ∷ []) in
      record {
        due = λ k.
            let last = count-last (λ j. j == k) of.ready key in
            let h = l.due k in
            elim (cases_eq k key) [
              | inl e ↦
                  let one : once (key == k) ≡ 1 = ap once (eq-eqb key k (sym e)) in
                  let was : once (is_at (due_in block) old k) ≡ 0 = ap once (ap (λ o. option_map_or (due_in block) o false) (ap (node_at old) e ∙ n.vacant)) in
                  let now : once (is_at (due_in block) new k) ≡ 1 = ap once (ap (is_at (due_in block) new) e ∙ due-here ∙ on) in omega arith
              | inr d ↦
                  let z : once (key == k) ≡ 0 = ap once (ne_eqb key k (λ e. d (sym e))) in
                  let same : once (is_at (due_in block) new k) ≡ once (is_at (due_in block) old k) = ap once (others-test (due_in block) (λ x. refl) k d) in omega arith
            ];
        ready = λ k. ap (λ xs. times xs k) (take-append-le of.done of.ready (key ∷ []) l.within) ∙ l.ready k ∙ sym (ap once (test-all (ready_in block) (λ x. refl) (and_right _ _ n.ready) k));
        flying = λ k. l.flying k ∙ sym (ap once (test-all (flying_in block) (λ x. refl) (and_right _ _ not-flying) k));
        counted = omega arith;
        within = omega arith;
        room_ready = omega arith;
        room_flying = omega arith;
      }

  pub listed-newcomer : (last : Nodes) (before after : Blocks) (of : OfBlock) → AreListed old before → ChangesOf block before after of → IsListed block last of → KeepsRest block new last → AreListed last after
  listed-newcomer last before after of l c here k b = elim (cases_eq b block) [
    | inl e ↦ rw (e, c.here) here
    | inr d ↦ rw (c.others b d) (listed-alike b new last (of_at before b) (alike-others block b new last (bare-plain new last k.all) k.others d) (listed-alike b old new (of_at before b) (newcomer-aside b d) (l b)))
  ]

told-yes : (q : ℕ → Bool) (m count : ℕ) (xs : List ℕ) → q m ≡ true → count_by q (told m count xs) ≡ count_by q xs + count
told-yes q m zero xs t = omega arith
told-yes q m (suc count) xs t =
    let e = told-yes q m count xs t in
    let a = count-last q (told m count xs) m in
    let b : once (q m) ≡ 1 = ap once t in omega arith

told-no : (q : ℕ → Bool) (m count : ℕ) (xs : List ℕ) → q m ≡ false → count_by q (told m count xs) ≡ count_by q xs
told-no q m zero xs t = refl
told-no q m (suc count) xs t =
    let e = told-no q m count xs t in
    let a = count-last q (told m count xs) m in
    let b : once (q m) ≡ 0 = ap once t in omega arith

told-In : (m count n : ℕ) (xs : List ℕ) → In (told m count xs) n → In xs n ⊎ (m ≡ n)
told-In m zero n xs i = inl i
told-In m (suc count) n xs i = elim (last-In (told m count xs) i) [ inl j ↦ told-In m count n xs j | inr e ↦ inr e ]
  where
    last-In : (ys : List ℕ) → In (ys ++ m ∷ []) n → In ys n ⊎ (m ≡ n)
    last-In [] (inl e) = inr e
    last-In [] (inr j) = absurd j
    last-In (y ∷ ys) (inl e) = inl (inl e)
    last-In (y ∷ ys) (inr j) = elim (last-In ys j) [ inl g ↦ inl (inr g) | inr e ↦ inr e ]

pub or-second : (a b c : Bool) → b ≡ true → (a || b || c) ≡ true
or-second true b c e = refl
or-second false true c e = refl
or-second false false c e = absurd (cc)

pub or-third : (a b c : Bool) → c ≡ true → (a || b || c) ≡ true
or-third true b c e = refl
or-third false true c e = refl
or-third false false c e = e

pub or-first : (a b c : Bool) → a ≡ true → (a || b || c) ≡ true
or-first true b c e = refl
or-first false b c e = absurd (cc)

pub or-three : (a b c : Bool) → (a || b || c) ≡ true → (a ≡ true) ⊎ ((b ≡ true) ⊎ (c ≡ true))
or-three true b c e = inl refl
or-three false true c e = inr (inl refl)
or-three false false c e = inr (inr e)

module _ (old two new : Nodes) (numbers now : Numbers) (blocks : Blocks) (key : ℕ) (c : Class) (node : Node) (s : Stands old numbers blocks) (isnew : IsNewClass c) (below : AreBelow c.name old)
    (follow : AreFollowed numbers c.name c.after old two) (vacant-old : node_at old key ≡ None) (here : node_at new key ≡ Some node) (others : (k : ℕ) → k ≢ key → node_at new k ≡ node_at two k)
    (class : node.class ≡ c) (ready : node.ready ≡ false) (none : node.followers ≡ []) (waits : node.waits ≡ count_by (is_unmet old numbers key c.block) c.after)
    (number : find now c.name ≡ Some key) (rest : (n : ℕ) → n ≢ c.name → find now n ≡ find numbers n) where
  abbrev many : ℕ → ℕ
  many k = count_by (leads_at numbers k) c.after

  at-new : (k : ℕ) → k ≢ key → node_at new k ≡ option_map (retold c.name (many k)) (node_at old k)
  at-new k d = others k d ∙ follow.at k

  named : (k : ℕ) (x : Node) (n : ℕ) → node_at old k ≡ Some x → names n x ≡ true → n < c.name
  named k x n at t = below k n (is-at (names n) old k x at ∙ t)

  in-after : (k : ℕ) (x : Node) (n : ℕ) → node_at old k ≡ Some x → In x.class.after n → n ≢ c.name
  in-after k x n at i e = let h = named k x n at (or-second (has_member n x) (is_among x.class.after n) (is_among x.followers n) (In-among x.class.after n i)) in omega arith

  in-followers : (k : ℕ) (x : Node) (n : ℕ) → node_at old k ≡ Some x → In x.followers n → n ≢ c.name
  in-followers k x n at i e = let h = named k x n at (or-third (has_member n x) (is_among x.class.after n) (is_among x.followers n) (In-among x.followers n i)) in omega arith

  leads-vacant : (n : ℕ) → leads_at numbers key n ≡ false
  leads-vacant n = s.members n key ∙ ap (λ o. option_map_or (has_member n) o false) vacant-old

  -- no class has the number of the new one
  unled : (k : ℕ) → leads_at numbers k c.name ≡ false
  unled k = false_from_ne_true _ (λ t.
      let x = at-is (has_member c.name) old k (sym (s.members c.name k) ∙ t) in
      let h = named k x.0 c.name x.1 (or-first (has_member c.name x.0) (is_among x.0.class.after c.name) (is_among x.0.followers c.name) x.2) in omega arith)

  leads-rest : (k n : ℕ) → n ≢ c.name → leads_at now k n ≡ leads_at numbers k n
  leads-rest k n d = ap (λ o. option_map_or (λ j. j == k) o false) (rest n d)

  leads-number : (k : ℕ) → leads_at now k c.name ≡ (key == k)
  leads-number k = ap (λ o. option_map_or (λ j. j == k) o false) number

  member-node : (n : ℕ) → is_at (has_member n) new key ≡ (c.name == n || false)
  member-node n = is-at (has_member n) new key node here ∙ ap (λ z. is_among z.members n) class ∙ ap (λ ms. is_among ms n) isnew.members

  test-new : (test : Node → Bool) → ((x : Node) (cnt : ℕ) → test (retold c.name cnt x) ≡ test x) → (k : ℕ) → k ≢ key → is_at test new k ≡ is_at test old k
  test-new test same k d = ap (λ o. option_map_or test o false) (at-new k d) ∙ by (node_at old k)
    where
      by : (o : Option Node) → option_map_or test (option_map (retold c.name (many k)) o) false ≡ option_map_or test o false
      by None = refl
      by (Some x) = same x (many k)

  pub members-put : AreMembers new now
  members-put n k = elim (cases_eq n c.name) [
    | inl e ↦ rw e (leads-number k ∙ elim (cases_eq k key) [
      | inl h ↦ eq-eqb key k (sym h) ∙ sym (ap (is_at (has_member c.name) new) h ∙ member-node c.name ∙ ap (λ b. b || false) (eq-eqb c.name c.name refl))
      | inr d ↦ ne_eqb key k (λ h. d (sym h)) ∙ sym (test-new (has_member c.name) (λ x cnt. refl) k d ∙ sym (s.members c.name k) ∙ unled k)
    ])
    | inr f ↦ leads-rest k n f ∙ elim (cases_eq k key) [
      | inl h ↦ ap (λ j. leads_at numbers j n) h ∙ leads-vacant n ∙ sym (ap (is_at (has_member n) new) h ∙ member-node n ∙ ap (λ b. b || false) (ne_eqb c.name n (λ e. f (sym e))))
      | inr d ↦ s.members n k ∙ sym (test-new (has_member n) (λ x cnt. refl) k d)
    ]
  ]

  after-rest : (k : ℕ) → count_by (leads_at now k) c.after ≡ many k
  after-rest k = count-same-in (leads_at now k) (leads_at numbers k) c.after (λ n i. leads-rest k n (λ e. let h = isnew.after n i in omega arith))

  was : (k : ℕ) (y : Node) → k ≢ key → node_at new k ≡ Some y → (x : Node) × (node_at old k ≡ Some x) × (y ≡ retold c.name (many k) x)
  was k y d at = now-was (retold c.name (many k)) (node_at old k) (node_at new k) y (at-new k d) at

  is-node : (k : ℕ) (x : Node) → k ≡ key → node_at new k ≡ Some x → x ≡ node
  is-node k x e at = same_some x node (sym at ∙ ap (node_at new) e ∙ here)

  pub linked-put : AreLinked new now
  linked-put k j x y apart at at2 = elim (cases_eq k key) [
    | inl e ↦
        let b = was j y (λ h. apart (e ∙ sym h)) at2 in
        let tx = is-node k x e at in
        let on : leads_at now k c.name ≡ true = leads-number k ∙ eq-eqb key k (sym e) in
        let a = told-yes (leads_at now k) c.name (many j) b.0.followers on in
        let z : count_by (leads_at now k) b.0.followers ≡ 0 = count-same-in (leads_at now k) (λ n. false) b.0.followers (λ n i.
        leads-rest k n (in-followers j b.0 n b.1 i) ∙ ap (λ i. leads_at numbers i n) e ∙ leads-vacant n) ∙ count-none (λ n. false) b.0.followers (λ n. refl) in
        let left : count_by (leads_at now k) y.followers ≡ count_by (leads_at now k) (told c.name (many j) b.0.followers) = ap (λ z. count_by (leads_at now k) z.followers) b.2 in
        let right : count_by (leads_at now j) x.class.after ≡ count_by (leads_at now j) c.after = ap (λ z. count_by (leads_at now j) z.class.after) tx ∙ ap (λ z. count_by (leads_at now j) z.after) class in
        let r = after-rest j in omega arith
    | inr d ↦
        let a = was k x d at in
        let off : leads_at now k c.name ≡ false = leads-number k ∙ ne_eqb key k (λ h. d (sym h)) in
        let right : count_by (leads_at now j) x.class.after ≡ count_by (leads_at numbers j) a.0.class.after = ap (λ z. count_by (leads_at now j) z.class.after) a.2
        ∙ count-same-in (leads_at now j) (leads_at numbers j) a.0.class.after (λ n i. leads-rest j n (in-after k a.0 n a.1 i)) in
        elim (cases_eq j key) [
          | inl e ↦
              let ty = is-node j y e at2 in
              let left : count_by (leads_at now k) y.followers ≡ 0 = ap (λ z. count_by (leads_at now k) z.followers) ty ∙ ap (count_by (leads_at now k)) none in
              let zero_ : count_by (leads_at numbers j) a.0.class.after ≡ 0 = count-none (leads_at numbers j) a.0.class.after (λ n. ap (λ i. leads_at numbers i n) e ∙ leads-vacant n) in omega arith
          | inr h ↦
              let b = was j y h at2 in
              let left : count_by (leads_at now k) y.followers ≡ count_by (leads_at numbers k) b.0.followers = ap (λ z. count_by (leads_at now k) z.followers) b.2
              ∙ told-no (leads_at now k) c.name (many j) b.0.followers off
              ∙ count-same-in (leads_at now k) (leads_at numbers k) b.0.followers (λ n i. leads-rest k n (in-followers j b.0 n b.1 i)) in
              let l = s.linked k j a.0 b.0 apart a.1 b.1 in omega arith
        ]
  ]

  ready-put : (b j : ℕ) → is_at (ready_in b) new j ≡ is_at (ready_in b) old j
  ready-put b j = elim (cases_eq j key) [
    | inl e ↦ rw e (is-at (ready_in b) new key node here ∙ and_right (node.class.block == b) _ ready ∙ sym (ap (λ o. option_map_or (ready_in b) o false) vacant-old))
    | inr d ↦ test-new (ready_in b) (λ x cnt. refl) j d
  ]

  unmet-put : (k b n : ℕ) → n ≢ c.name → is_unmet new now k b n ≡ is_unmet old numbers k b n
  unmet-put k b n d = ap (λ o. option_map_or (λ j. not (j == k) && not (is_at (ready_in b) new j)) o false) (rest n d) ∙ by (find numbers n)
    where
      by : (o : Option ℕ) → option_map_or (λ j. not (j == k) && not (is_at (ready_in b) new j)) o false ≡ option_map_or (λ j. not (j == k) && not (is_at (ready_in b) old j)) o false
      by None = refl
      by (Some j) = ap (λ r. not (j == k) && not r) (ready-put b j)

  pub counted-put : AreCounted new now
  counted-put k y at = elim (cases_eq k key) [
    | inl e ↦
        let t = is-node k y e at in
        let w : y.waits ≡ count_by (is_unmet old numbers k c.block) c.after = ap (λ z. z.waits) t ∙ waits ∙ ap (λ i. count_by (is_unmet old numbers i c.block) c.after) (sym e) in
        let u : unmet_of new now k y.class ≡ count_by (is_unmet old numbers k c.block) c.after = ap (λ z. unmet_of new now k z) (ap (λ z. z.class) t ∙ class)
        ∙ count-same-in (is_unmet new now k c.block) (is_unmet old numbers k c.block) c.after (λ n i. unmet-put k c.block n (λ h. let l = isnew.after n i in omega arith)) in omega arith
    | inr d ↦
        let a = was k y d at in
        let w = s.counted k a.0 a.1 in
        let v : y.waits ≡ a.0.waits = ap (λ z. z.waits) a.2 in
        let u : unmet_of new now k y.class ≡ unmet_of old numbers k a.0.class = ap (λ z. unmet_of new now k z.class) a.2
        ∙ count-same-in (is_unmet new now k a.0.class.block) (is_unmet old numbers k a.0.class.block) a.0.class.after (λ n i. unmet-put k a.0.class.block n (in-after k a.0 n a.1 i)) in omega arith
  ]

  pub newcomer-put : IsNewcomer c.block key old new
  newcomer-put = record {
    vacant = vacant-old;
    node = node;
    here = here;
    of = ap (λ z. z.block) class;
    ready = ready;
    memory = ap (λ z. z.mark) class ∙ isnew.memory;
    others = λ k d. ap (option_map unfollowed) (at-new k d) ∙ by (many k) (node_at old k);
  }
    where
      by : (cnt : ℕ) (o : Option Node) → option_map unfollowed (option_map (retold c.name cnt) o) ≡ option_map unfollowed o
      by cnt None = refl
      by cnt (Some x) = refl

  below-put : AreBelow (c.name + 1) new
  below-put k n t = elim (cases_eq k key) [
    | inl e ↦
        let x = at-is (names n) new k t in
        let tx = is-node k x.0 e x.1 in
        elim (or-three (has_member n x.0) (is_among x.0.class.after n) (is_among x.0.followers n) x.2) [
          | inl m ↦
              let u : (c.name == n || false) ≡ true = sym (member-node n) ∙ ap (is_at (has_member n) new) (sym e) ∙ is-at (has_member n) new k x.0 x.1 ∙ m in
              let same : c.name ≡ n = elim (cases_Bool (c.name == n)) [ inl v ↦ eqb-true c.name n v | inr v ↦ absurd (both_ways _ (ap (λ b. b || false) v) u) ] in omega arith
          | inr h ↦ elim h [
            | inl a ↦ let l = isnew.after n (among-In c.after n (sym (ap (λ z. is_among z.class.after n) tx ∙ ap (λ z. is_among z.after n) class) ∙ a)) in omega arith
            | inr f ↦ absurd (both_ways _ (ap (λ z. is_among z.followers n) tx ∙ ap (λ ns. is_among ns n) none) f)
          ]
        ]
    | inr d ↦
        let y = at-is (names n) new k t in
        let a = was k y.0 d y.1 in
        elim (or-three (has_member n y.0) (is_among y.0.class.after n) (is_among y.0.followers n) y.2) [
          | inl m ↦ let l = named k a.0 n a.1 (or-first (has_member n a.0) (is_among a.0.class.after n) (is_among a.0.followers n) (sym (ap (has_member n) a.2) ∙ m)) in omega arith
          | inr h ↦ elim h [
            | inl g ↦ let l = named k a.0 n a.1 (or-second (has_member n a.0) (is_among a.0.class.after n) (is_among a.0.followers n) (sym (ap (λ z. is_among z.class.after n) a.2) ∙ g)) in omega arith
            | inr f ↦ elim (told-In c.name (many k) n a.0.followers (among-In (told c.name (many k) a.0.followers) n (sym (ap (λ z. is_among z.followers n) a.2) ∙ f))) [
              | inl i ↦ let l = named k a.0 n a.1 (or-third (has_member n a.0) (is_among a.0.class.after n) (is_among a.0.followers n) (In-among a.0.followers n i)) in omega arith
              | inr e ↦ omega arith
            ]
          ]
        ]
  ]

  -- after other classes came into ready sets
  module _ (last : Nodes) (k : KeepsBare new last) where
    pub below-last : AreBelow (c.name + 1) last
    below-last = below-kept (c.name + 1) new last (bare-plain new last k) below-put

    pub stands-last : (after : Blocks) → AreCounted last now → AreListed last after → AreSettled after → Stands last now after
    stands-last after counted listed settled = record {
      members = members-kept new last now (bare-plain new last k) members-put;
      linked = linked-kept new last now k linked-put;
      counted = counted;
      listed = listed;
      settled = settled;
    }

    pub put-last : HasPut (slots_of old) (slots_of last) numbers now key c
    put-last = record {
      vacant = slots-at old key ∙ ap (option_map (λ x. x.class)) vacant-old;
      here = slots-at last key ∙ class-bare new last key (k.bare key) ∙ ap (option_map (λ x. x.class)) here ∙ ap (λ z. Some z) class;
      others = λ j d. slots-at last j ∙ class-bare new last j (k.bare j) ∙ ap (option_map (λ x. x.class)) (at-new j d) ∙ by (many j) (node_at old j) ∙ sym (slots-at old j);
      number = number;
      rest = rest;
    }
      where
        by : (cnt : ℕ) (o : Option Node) → option_map (λ x. x.class) (option_map (retold c.name cnt) o) ≡ option_map (λ x. x.class) o
        by cnt None = refl
        by cnt (Some x) = refl
