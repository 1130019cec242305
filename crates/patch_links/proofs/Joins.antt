-- Two classes made one: members, followers and counts.
use Rattle.std.proofs.Common.{◌≤◌, ◌++◌, ◌≡◌, ℕ, ◌+◌, ◌⊎◌, ◌∙◌, inl, inr, Bool, true, false, List, refl, sym, ap, arith, Option, Some, None}
use Rattle.std.specs.Prelude.{◌==◌, ◌≢◌, ◌&&◌, ◌||◌, not, if◌then◌else◌, count_by}
use Rattle.std.specs.Option.{option_map, option_map_or}
use Rattle.std.proofs.lemmas.Bool.{and_from, cases_Bool, cases_eq, both_ways, eq-eqb, eqb-true, ne_eqb, or_right, and_left, and_parts}
use Rattle.std.proofs.lemmas.List.Folds.{list_any-append}
use Rattle.patch_model.specs.Entry.{is_among, marks_memory}
use Rattle.patch_links.specs.State.{Class, Node, Nodes, Numbers, find, leads_at, node_at, is_at}
use Rattle.patch_links.specs.Waiting.{ready_in, is_unmet, unmet_of, AreCounted, AreLinked}
use Rattle.patch_links.specs.Lists.{once}
use Rattle.patch_links.specs.Invariants.{has_member, names, AreMembers, AreBelow}
use Rattle.patch_links.specs.Merging.{may_join, AreRedirected}
use Rattle.patch_links.specs.Joining.{inner, IsNodeJoined}
use Rattle.patch_links.proofs.Counts.{count-append, count-same, count-split, count-none, count-le}
use Rattle.patch_links.proofs.Places.{same_some, is-at, at-is}
use Rattle.patch_links.proofs.Landings.{leads-key}
use Rattle.patch_links.proofs.Newcomers.{or-first, or-second, or-third, or-three}

-- of two tests one passes at most, and a third passes what either does
once-either : (a b c : Bool) → (a ≡ true → b ≡ false) → c ≡ (a || b) → once a + once b ≡ once c
once-either true b c apart e =
    let none : once b ≡ 0 = ap once (apart refl) in
    let both : once c ≡ 1 = ap once e in omega arith
once-either false b c apart e = let both : once c ≡ once b = ap once e in omega arith

-- of each that passes the last test, one of the first two passes it, and none the second where it is not asked
count-gap : (r : Bool) (p q s : ℕ → Bool) (xs : List ℕ) → ((n : ℕ) → once (p n) + (if r then 0 else once (q n)) ≡ once (s n)) → count_by p xs + (if r then 0 else count_by q xs) ≡ count_by s xs
count-gap true p q s xs gap =
    let e = count-split p (λ n. false) s xs (λ n. let g = gap n in omega arith) in
    let none : count_by (λ n. false) xs ≡ 0 = count-none (λ n. false) xs (λ n. refl) in omega arith
count-gap false p q s xs gap = count-split p q s xs gap

or-two : (a b : Bool) → (a || b) ≡ true → (a ≡ true) ⊎ (b ≡ true)
or-two true b e = inl refl
or-two false b e = inr e

turned : (r : Bool) → (if r then 0 else 1) ≡ once (not r)
turned true = refl
turned false = refl

nought : (r : Bool) → (if r then 0 else once false) ≡ once false
nought true = refl
nought false = refl

module _ (keep gone : ℕ) (x y : Node) (old new : Nodes) (numbers now : Numbers) (apart : keep ≢ gone) (at-keep : node_at old keep ≡ Some x) (at-gone : node_at old gone ≡ Some y)
    (members : AreMembers old numbers) (joined : IsNodeJoined keep gone x y numbers old new) (redirected : AreRedirected y.class.members keep numbers now) where
  abbrev z : Node
  z = joined.node

  member-gone : (n : ℕ) → leads_at numbers gone n ≡ is_among y.class.members n
  member-gone n = members n gone ∙ is-at (has_member n) old gone y at-gone

  member-keep : (n : ℕ) → leads_at numbers keep n ≡ is_among x.class.members n
  member-keep n = members n keep ∙ is-at (has_member n) old keep x at-keep

  abbrev led : ℕ → Option ℕ → Bool
  led key o = option_map_or (λ k. k == key) o false

  find-gone : (n : ℕ) → leads_at numbers gone n ≡ true → find now n ≡ Some keep
  find-gone n t = redirected n ∙ ap (λ b. if b then option_map (λ k. keep) (find numbers n) else find numbers n) (sym (member-gone n) ∙ t)
      ∙ ap (option_map (λ k. keep)) (leads-key numbers gone n t)

  find-else : (n : ℕ) → leads_at numbers gone n ≡ false → find now n ≡ find numbers n
  find-else n t = redirected n ∙ ap (λ b. if b then option_map (λ k. keep) (find numbers n) else find numbers n) (sym (member-gone n) ∙ t)

  -- a number leads to one class only
  not-both-led : (n : ℕ) → leads_at numbers keep n ≡ true → leads_at numbers gone n ≡ false
  not-both-led n t = ap (led gone) (leads-key numbers keep n t) ∙ ne_eqb keep gone apart

  leads-gone : (n : ℕ) → leads_at now gone n ≡ false
  leads-gone n = elim (cases_Bool (leads_at numbers gone n)) [
    | inl t ↦ ap (led gone) (find-gone n t) ∙ ne_eqb keep gone apart
    | inr t ↦ ap (led gone) (find-else n t) ∙ t
  ]

  leads-keep : (n : ℕ) → leads_at now keep n ≡ (leads_at numbers keep n || leads_at numbers gone n)
  leads-keep n = elim (cases_Bool (leads_at numbers gone n)) [
    | inl t ↦ ap (led keep) (find-gone n t) ∙ eq-eqb keep keep refl ∙ sym (or_right (leads_at numbers keep n) _ t)
    | inr t ↦ ap (led keep) (find-else n t) ∙ sym (or-none (leads_at numbers keep n) _ t)
  ]
    where
      or-none : (a b : Bool) → b ≡ false → (a || b) ≡ a
      or-none true b e = refl
      or-none false b e = e

  leads-both : (n : ℕ) → once (leads_at numbers keep n) + once (leads_at numbers gone n) ≡ once (leads_at now keep n)
  leads-both n = once-either _ _ _ (not-both-led n) (leads-keep n)

  leads-else : (k n : ℕ) → k ≢ keep → k ≢ gone → leads_at now k n ≡ leads_at numbers k n
  leads-else k n d g = elim (cases_Bool (leads_at numbers gone n)) [
    | inl t ↦ ap (led k) (find-gone n t) ∙ ne_eqb keep k (λ e. d (sym e)) ∙ sym (ap (led k) (leads-key numbers gone n t) ∙ ne_eqb gone k (λ e. g (sym e)))
    | inr t ↦ ap (led k) (find-else n t)
  ]

  -- a class that is there now is the joint, or was there before
  was : (k : ℕ) (v : Node) → node_at new k ≡ Some v → ((k ≡ keep) × (v ≡ z)) ⊎ ((k ≢ keep) × (k ≢ gone) × (node_at old k ≡ Some v))
  was k v at = elim (cases_eq k keep) [
    | inl e ↦ inl (e, same_some v z (sym at ∙ ap (node_at new) e ∙ joined.here))
    | inr d ↦ elim (cases_eq k gone) [
      | inl e ↦ absurd (let n : node_at new k ≡ None = ap (node_at new) e ∙ joined.none in cc)
      | inr g ↦ inr (d, g, sym (joined.others k d g) ∙ at)
    ]
  ]

  -- a test that the joint passes just where one of both did
  test-else : (test : Node → Bool) (k : ℕ) → k ≢ keep → k ≢ gone → is_at test new k ≡ is_at test old k
  test-else test k d g = ap (λ o. option_map_or test o false) (joined.others k d g)

  test-gone : (test : Node → Bool) → is_at test new gone ≡ false
  test-gone test = ap (λ o. option_map_or test o false) joined.none

  pub members-joined : AreMembers new now
  members-joined n k = elim (cases_eq k keep) [
    | inl e ↦ rw e (leads-keep n ∙ ap (λ a. a || leads_at numbers gone n) (member-keep n) ∙ ap (λ b. is_among x.class.members n || b) (member-gone n)
        ∙ sym (list_any-append (λ m. m == n) x.class.members y.class.members) ∙ sym (is-at (has_member n) new keep z joined.here ∙ ap (λ c. is_among c.members n) joined.class))
    | inr d ↦ elim (cases_eq k gone) [
      | inl e ↦ rw e (leads-gone n ∙ sym (test-gone (has_member n)))
      | inr g ↦ leads-else k n d g ∙ members n k ∙ sym (test-else (has_member n) k d g)
    ]
  ]

  count-keep : (xs : List ℕ) → count_by (leads_at numbers keep) xs + count_by (leads_at numbers gone) xs ≡ count_by (leads_at now keep) xs
  count-keep xs = count-split (leads_at numbers keep) (leads_at numbers gone) (leads_at now keep) xs leads-both

  count-else : (k : ℕ) (xs : List ℕ) → k ≢ keep → k ≢ gone → count_by (leads_at now k) xs ≡ count_by (leads_at numbers k) xs
  count-else k xs d g = count-same (leads_at now k) (leads_at numbers k) xs (λ n. leads-else k n d g)

  after-both : (p : ℕ → Bool) → count_by p z.class.after ≡ count_by p x.class.after + count_by p y.class.after
  after-both p = ap (λ c. count_by p c.after) joined.class ∙ count-append p x.class.after y.class.after

  followers-both : (p : ℕ → Bool) → count_by p z.followers ≡ count_by p x.followers + count_by p y.followers
  followers-both p = ap (count_by p) joined.followers ∙ count-append p x.followers y.followers

  module _ (linked : AreLinked old numbers) where
    -- the joint depends on another class as often as both did
    link-from : (j : ℕ) (w : Node) → j ≢ keep → j ≢ gone → node_at old j ≡ Some w → count_by (leads_at now keep) w.followers ≡ count_by (leads_at now j) z.class.after
    link-from j w d g at =
        let a = linked keep j x w (λ e. d (sym e)) at-keep at in
        let b = linked gone j y w (λ e. g (sym e)) at-gone at in
        let k = count-keep w.followers in
        let s = after-both (leads_at now j) in
        let ex = count-else j x.class.after d g in
        let ey = count-else j y.class.after d g in omega arith

    link-to : (k : ℕ) (v : Node) → k ≢ keep → k ≢ gone → node_at old k ≡ Some v → count_by (leads_at now k) z.followers ≡ count_by (leads_at now keep) v.class.after
    link-to k v d g at =
        let a = linked k keep v x d at at-keep in
        let b = linked k gone v y g at at-gone in
        let c = count-keep v.class.after in
        let s = followers-both (leads_at now k) in
        let ex = count-else k x.followers d g in
        let ey = count-else k y.followers d g in omega arith

    pub linked-joined : AreLinked new now
    linked-joined k j v w differ at at2 = elim (was k v at) [
      | inl e ↦ elim (was j w at2) [
        | inl f ↦ absurd (differ (e.0 ∙ sym f.0))
        | inr f ↦ rw (e.0, e.1) (link-from j w f.0 f.1 f.2)
      ]
      | inr e ↦ elim (was j w at2) [
        | inl f ↦ rw (f.0, f.1) (link-to k v e.0 e.1 e.2)
        | inr f ↦ count-else k w.followers e.0 e.1 ∙ linked k j v w differ e.2 f.2 ∙ sym (count-else j v.class.after f.0 f.1)
      ]
    ]

  abbrev block : ℕ
  block = x.class.block

  abbrev wait : Nodes → ℕ → ℕ → Option ℕ → Bool
  wait ns k b o = option_map_or (λ i. not (i == k) && not (is_at (ready_in b) ns i)) o false

  block-z : z.class.block ≡ block
  block-z = ap (λ c. c.block) joined.class

  ready-keep : (b : ℕ) → is_at (ready_in b) new keep ≡ is_at (ready_in b) old keep
  ready-keep b = is-at (ready_in b) new keep z joined.here ∙ ap (λ c. c == b && z.ready) block-z ∙ ap (λ r. block == b && r) joined.ready ∙ sym (is-at (ready_in b) old keep x at-keep)

  ready-else : (b i : ℕ) → i ≢ gone → is_at (ready_in b) new i ≡ is_at (ready_in b) old i
  ready-else b i g = elim (cases_eq i keep) [ inl e ↦ rw e (ready-keep b) | inr d ↦ test-else (ready_in b) i d g ]

  -- a number that did not lead to the class that is gone leads where it led
  wait-else : (k b n : ℕ) → leads_at numbers gone n ≡ false → is_unmet new now k b n ≡ is_unmet old numbers k b n
  wait-else k b n f = ap (wait new k b) (find-else n f) ∙ by (find numbers n) f
    where
      by : (o : Option ℕ) → led gone o ≡ false → wait new k b o ≡ wait old k b o
      by None u = refl
      by (Some i) u = ap (λ r. not (i == k) && not r) (ready-else b i (λ e. both_ways _ u (eq-eqb i gone e)))

  module _ (may : may_join x.class y.class ≡ true) (ready : y.ready ≡ x.ready) where
    block-y : y.class.block ≡ block
    block-y =
        let parts = and_parts (marks_memory x.class.mark && marks_memory y.class.mark) (x.class.block == y.class.block) may in sym (eqb-true x.class.block y.class.block parts.1)

    ready-gone : (b : ℕ) → is_at (ready_in b) old gone ≡ is_at (ready_in b) old keep
    ready-gone b = is-at (ready_in b) old gone y at-gone ∙ ap (λ c. c == b && y.ready) block-y ∙ ap (λ r. block == b && r) ready ∙ sym (is-at (ready_in b) old keep x at-keep)

    ready-here : is_at (ready_in block) old keep ≡ x.ready
    ready-here = is-at (ready_in block) old keep x at-keep ∙ ap (λ b. b && x.ready) (eq-eqb block block refl)

    -- what other classes wait for
    unmet-else : (k : ℕ) (c : Class) → k ≢ keep → k ≢ gone → unmet_of new now k c ≡ unmet_of old numbers k c
    unmet-else k c d g = count-same (is_unmet new now k c.block) (is_unmet old numbers k c.block) c.after (λ n. elim (cases_Bool (leads_at numbers gone n)) [
      | inl t ↦ ap (wait new k c.block) (find-gone n t) ∙ ap (λ b. not b && not (is_at (ready_in c.block) new keep)) (ne_eqb keep k (λ e. d (sym e)) ∙ sym (ne_eqb gone k (λ e. g (sym e))))
          ∙ ap (λ r. not (gone == k) && not r) (ready-keep c.block ∙ sym (ready-gone c.block)) ∙ sym (ap (wait old k c.block) (leads-key numbers gone n t))
      | inr f ↦ wait-else k c.block n f
    ])

    -- of what the one class waited for, that is left which didn't lead to the other
    gap-keep : (n : ℕ) → once (is_unmet new now keep block n) + (if x.ready then 0 else once (leads_at numbers gone n)) ≡ once (is_unmet old numbers keep block n)
    gap-keep n = elim (cases_Bool (leads_at numbers gone n)) [
      | inl t ↦
          let a : once (is_unmet new now keep block n) ≡ 0 = ap (λ o. once (wait new keep block o)) (find-gone n t) ∙ ap once (and_left _ _ (ap not (eq-eqb keep keep refl))) in
          let b : is_unmet old numbers keep block n ≡ not x.ready = ap (wait old keep block) (leads-key numbers gone n t)
          ∙ ap (λ b. not b && not (is_at (ready_in block) old gone)) (ne_eqb gone keep (λ e. apart (sym e))) ∙ ap not (ready-gone block ∙ ready-here) in
          let c : once (is_unmet old numbers keep block n) ≡ once (not x.ready) = ap once b in
          let d : (if x.ready then 0 else once (leads_at numbers gone n)) ≡ (if x.ready then 0 else 1) = ap (λ b. if x.ready then 0 else once b) t in
          let e = turned x.ready in omega arith
      | inr f ↦
          let a : once (is_unmet new now keep block n) ≡ once (is_unmet old numbers keep block n) = ap once (wait-else keep block n f) in
          let d : (if x.ready then 0 else once (leads_at numbers gone n)) ≡ 0 = ap (λ b. if x.ready then 0 else once b) f ∙ nought x.ready in omega arith
    ]

    gap-gone : (n : ℕ) → once (is_unmet new now keep block n) + (if x.ready then 0 else once (leads_at numbers keep n)) ≡ once (is_unmet old numbers gone block n)
    gap-gone n = elim (cases_Bool (leads_at numbers gone n)) [
      | inl t ↦
          let a : once (is_unmet new now keep block n) ≡ 0 = ap (λ o. once (wait new keep block o)) (find-gone n t) ∙ ap once (and_left _ _ (ap not (eq-eqb keep keep refl))) in
          let b : once (is_unmet old numbers gone block n) ≡ 0 = ap (λ o. once (wait old gone block o)) (leads-key numbers gone n t) ∙ ap once (and_left _ _ (ap not (eq-eqb gone gone refl))) in
          let f : leads_at numbers keep n ≡ false = ap (led keep) (leads-key numbers gone n t) ∙ ne_eqb gone keep (λ e. apart (sym e)) in
          let d : (if x.ready then 0 else once (leads_at numbers keep n)) ≡ 0 = ap (λ b. if x.ready then 0 else once b) f ∙ nought x.ready in omega arith
      | inr f ↦ elim (cases_Bool (leads_at numbers keep n)) [
        | inl t ↦
            let a : once (is_unmet new now keep block n) ≡ 0 = ap (λ o. once (wait new keep block o)) (find-else n f ∙ leads-key numbers keep n t) ∙ ap once (and_left _ _ (ap not (eq-eqb keep keep refl))) in
            let b : is_unmet old numbers gone block n ≡ not x.ready = ap (wait old gone block) (leads-key numbers keep n t)
            ∙ ap (λ b. not b && not (is_at (ready_in block) old keep)) (ne_eqb keep gone apart) ∙ ap not ready-here in
            let c : once (is_unmet old numbers gone block n) ≡ once (not x.ready) = ap once b in
            let d : (if x.ready then 0 else once (leads_at numbers keep n)) ≡ (if x.ready then 0 else 1) = ap (λ b. if x.ready then 0 else once b) t in
            let e = turned x.ready in omega arith
        | inr g ↦
            let a : once (is_unmet new now keep block n) ≡ once (is_unmet old numbers gone block n) = ap once (wait-else keep block n f ∙ aside (find numbers n) f g) in
            let d : (if x.ready then 0 else once (leads_at numbers keep n)) ≡ 0 = ap (λ b. if x.ready then 0 else once b) g ∙ nought x.ready in omega arith
      ]
    ]
      where
        aside : (o : Option ℕ) → led gone o ≡ false → led keep o ≡ false → wait old keep block o ≡ wait old gone block o
        aside None f g = refl
        aside (Some i) f g = ap (λ b. not b && not (is_at (ready_in block) old i)) (g ∙ sym f)

    module _ (linked : AreLinked old numbers) (counted : AreCounted old numbers) where
      waits-keep : z.waits ≡ unmet_of new now keep z.class
      waits-keep =
          let a = count-gap x.ready (is_unmet new now keep block) (leads_at numbers gone) (is_unmet old numbers keep block) x.class.after gap-keep in
          let b = count-gap x.ready (is_unmet new now keep block) (leads_at numbers keep) (is_unmet old numbers gone block) y.class.after gap-gone in
          let all = after-both (is_unmet new now keep block) in
          let blocks : unmet_of new now keep z.class ≡ count_by (is_unmet new now keep block) z.class.after = ap (λ c. count_by (is_unmet new now keep c) z.class.after) block-z in
          let link = linked keep gone x y apart at-keep at-gone in
          let wx = counted keep x at-keep in
          let wy : y.waits ≡ count_by (is_unmet old numbers gone block) y.class.after + 0 = counted gone y at-gone ∙ ap (λ c. count_by (is_unmet old numbers gone c) y.class.after + 0) block-y in
          let w = joined.waits in
          elim (cases_Bool x.ready) [
            | inl t ↦
                let a2 : (if x.ready then 0 else count_by (leads_at numbers gone) x.class.after) ≡ 0 = ap (λ r. if r then 0 else count_by (leads_at numbers gone) x.class.after) t in
                let b2 : (if x.ready then 0 else count_by (leads_at numbers keep) y.class.after) ≡ 0 = ap (λ r. if r then 0 else count_by (leads_at numbers keep) y.class.after) t in
                let w2 : (if x.ready then 0 else inner numbers keep y) ≡ 0 = ap (λ r. if r then 0 else inner numbers keep y) t in omega arith
            | inr t ↦
                let a2 : (if x.ready then 0 else count_by (leads_at numbers gone) x.class.after) ≡ count_by (leads_at numbers gone) x.class.after = ap (λ r. if r then 0 else count_by (leads_at numbers gone) x.class.after) t in
                let b2 : (if x.ready then 0 else count_by (leads_at numbers keep) y.class.after) ≡ count_by (leads_at numbers keep) y.class.after = ap (λ r. if r then 0 else count_by (leads_at numbers keep) y.class.after) t in
                let w2 : (if x.ready then 0 else inner numbers keep y) ≡ inner numbers keep y = ap (λ r. if r then 0 else inner numbers keep y) t in omega arith
          ]

      pub counted-joined : AreCounted new now
      counted-joined k v at = elim (was k v at) [
        | inl e ↦ rw (e.0, e.1) (let w = waits-keep in omega arith)
        | inr e ↦ counted k v e.2 ∙ ap (λ n. n + 0) (sym (unmet-else k v.class e.0 e.1))
      ]

  pub below-joined : (made : ℕ) → AreBelow made old → AreBelow made new
  below-joined made b key n t =
      let v = at-is (names n) new key t in
      elim (was key v.0 v.1) [
        | inr e ↦ b key n (is-at (names n) old key v.0 e.2 ∙ v.2)
        | inl e ↦ elim (either (sym (ap (names n) e.1) ∙ v.2)) [
          | inl u ↦ b keep n (is-at (names n) old keep x at-keep ∙ u)
          | inr u ↦ b gone n (is-at (names n) old gone y at-gone ∙ u)
        ]
      ]
    where
      split : (xs ys : List ℕ) → is_among (xs ++ ys) n ≡ true → (is_among xs n ≡ true) ⊎ (is_among ys n ≡ true)
      split xs ys u = or-two (is_among xs n) (is_among ys n) (sym (list_any-append (λ m. m == n) xs ys) ∙ u)

      either : names n z ≡ true → (names n x ≡ true) ⊎ (names n y ≡ true)
      either u = elim (or-three (has_member n z) (is_among z.class.after n) (is_among z.followers n) u) [
        | inl m ↦ elim (split x.class.members y.class.members (sym (ap (λ c. is_among c.members n) joined.class) ∙ m)) [
          | inl w ↦ inl (or-first (has_member n x) (is_among x.class.after n) (is_among x.followers n) w)
          | inr w ↦ inr (or-first (has_member n y) (is_among y.class.after n) (is_among y.followers n) w)
        ]
        | inr r ↦ elim r [
          | inl m ↦ elim (split x.class.after y.class.after (sym (ap (λ c. is_among c.after n) joined.class) ∙ m)) [
            | inl w ↦ inl (or-second (has_member n x) (is_among x.class.after n) (is_among x.followers n) w)
            | inr w ↦ inr (or-second (has_member n y) (is_among y.class.after n) (is_among y.followers n) w)
          ]
          | inr m ↦ elim (split x.followers y.followers (sym (ap (λ xs. is_among xs n) joined.followers) ∙ m)) [
            | inl w ↦ inl (or-third (has_member n x) (is_among x.class.after n) (is_among x.followers n) w)
            | inr w ↦ inr (or-third (has_member n y) (is_among y.class.after n) (is_among y.followers n) w)
          ]
        ]
      ]

-- a class waits for another one that is not in the ready set, as often as it depends on it
pub waits-for : (nodes : Nodes) (numbers : Numbers) (k j : ℕ) (v : Node) → AreCounted nodes numbers → node_at nodes k ≡ Some v → j ≢ k → is_at (ready_in v.class.block) nodes j ≡ false
    → count_by (leads_at numbers j) v.class.after ≤ v.waits
waits-for nodes numbers k j v counted at apart off =
    let w = counted k v at in
    let most = count-le (leads_at numbers j) (is_unmet nodes numbers k v.class.block) v.class.after
    (λ n t. ap (λ o. option_map_or (λ i. not (i == k) && not (is_at (ready_in v.class.block) nodes i)) o false) (leads-key numbers j n t) ∙ and_from _ _ (ap not (ne_eqb j k apart)) (ap not off)) in
    omega arith
