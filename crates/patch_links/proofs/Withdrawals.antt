-- Classes that leave a block's ready set, one after another.
use Rattle.std.proofs.Common.{◌≡◌, ℕ, ◌+◌, ◌<◌, ◌≤◌, ◌⊎◌, ◌∙◌, inl, inr, Bool, true, false, List, [], ◌∷◌, ◌++◌, length, refl, sym, ap, arith, subst, Option, Some, None, take, drop, length-append}
use Rattle.std.specs.Prelude.{◌==◌, ◌≢◌, ◌&&◌, not, nat_lt, slice_get, if◌then◌else◌, MatchOption}
use Rattle.std.specs.Option.{option_map, option_map_or}
use Rattle.std.proofs.lemmas.Bool.{cases_Bool, cases_eq, both_ways, eq-eqb, eqb-true, ne_eqb, and_from, and_parts, and_right, false_from_ne_true}
use Rattle.std.proofs.lemmas.List.{take-append-le, drop-append-le, take_all, drop_all}
use Rattle.patch_model.specs.Entry.{marks_memory}
use Rattle.patch_links.specs.State.{Class, Node, Nodes, Numbers, find, leads_at, node_at, is_at, changed_at}
use Rattle.patch_links.specs.Waiting.{of_block, ready_in, is_due, AreCounted, AreLinked, is_other, passed_by, raised, unreadied, changed_if_other, passed_to, followers_at}
use Rattle.patch_links.specs.Lists.{OfBlock, times, once, due_in, flying_in, IsListed, IsSettled, pushed}
use Rattle.patch_links.specs.Invariants.{bare, KeepsBare, KeepsRest}
use Rattle.patch_links.specs.Leaving.{HoldsReady, HasLeft, LosesLast, LeavesIf, LeavesTo, LosesReady, owed_to, AreLeaving, KeepsLeaving}
use Rattle.patch_links.proofs.Counts.{count-last}
use Rattle.patch_links.proofs.Places.{cases_option, is-at, at-is, changed-here, changed-else, is-changed, count-free}
use Rattle.patch_links.proofs.Waits.{touches, passed-at, none-turned, now-was, ready-passed, passed_by-none, linked-kept, flipped-out, owing-alike, owing-unready, raised-up, raise-more, unready-more}
use Rattle.patch_links.proofs.Passing.{rest-same, rest-then, passed-rest, changed-rest, followers-kept, drop-next, drop-last, drop-all}
use Rattle.patch_links.proofs.Flights.{ready-of}
use Rattle.patch_links.proofs.Listings.{ready-most}
use Rattle.patch_links.proofs.Landings.{leads-key}
use Rattle.patch_links.proofs.Launching.{settled-holds}

-- a test that ready sets and counts have no part in
bare-test : (test : Node → Bool) (old new : Nodes) (key : ℕ) → KeepsBare old new → ((x : Node) → test (bare x) ≡ test x) → is_at test new key ≡ is_at test old key
bare-test test old new key k same = sym (by (node_at new key)) ∙ ap (λ o. option_map_or test o false) (k.bare key) ∙ by (node_at old key)
  where
    by : (o : Option Node) → option_map_or test (option_map bare o) false ≡ option_map_or test o false
    by None = refl
    by (Some x) = same x

once-same : (a b : Bool) → once a ≡ once b → a ≡ b
once-same true true e = refl
once-same true false e = absurd (omega arith)
once-same false true e = absurd (omega arith)
once-same false false e = refl

pub owed-kept : (old new : Nodes) (numbers : Numbers) (block : ℕ) (keys : List ℕ) (key : ℕ) (c : Class) → KeepsBare old new → owed_to new numbers block keys key c ≡ owed_to old numbers block keys key c
owed-kept old new numbers block [] key c k = refl
owed-kept old new numbers block (j ∷ keys) key c k =
    let a : passed_by numbers j block (followers_at new j) key c ≡ passed_by numbers j block (followers_at old j) key c = ap (λ xs. passed_by numbers j block xs key c) (followers-kept old new j k) in
    let r = owed-kept old new numbers block keys key c k in omega arith

pub owed-last : (nodes : Nodes) (numbers : Numbers) (block : ℕ) (keys : List ℕ) (j key : ℕ) (c : Class)
    → owed_to nodes numbers block (keys ++ j ∷ []) key c ≡ owed_to nodes numbers block keys key c + passed_by numbers j block (followers_at nodes j) key c
owed-last nodes numbers block [] j key c = omega arith
owed-last nodes numbers block (i ∷ keys) j key c = let r = owed-last nodes numbers block keys j key c in omega arith

-- where one class left the ready set, and no other one
pub holds-left : (block j : ℕ) (old new : Nodes) (of now : OfBlock) → HoldsReady block old of → HasLeft of now j → is_at (ready_in block) old j ≡ true → is_at (ready_in block) new j ≡ false
    → ((k : ℕ) → k ≢ j → is_at (ready_in block) new k ≡ is_at (ready_in block) old k) → HoldsReady block new now
holds-left block j old new of now h left on off same = record {
  ready = λ k.
      let a = left.ahead k in
      let b = h.ready k in
      elim (cases_eq k j) [
        | inl e ↦
            let one : once (j == k) ≡ 1 = ap once (eq-eqb j k (sym e)) in
            let was : once (is_at (ready_in block) old k) ≡ 1 = ap once (ap (is_at (ready_in block) old) e ∙ on) in
            let is : once (is_at (ready_in block) new k) ≡ 0 = ap once (ap (is_at (ready_in block) new) e ∙ off) in omega arith
        | inr d ↦
            let none : once (j == k) ≡ 0 = ap once (ne_eqb j k (λ e. d (sym e))) in
            let is : once (is_at (ready_in block) new k) ≡ once (is_at (ready_in block) old k) = ap once (same k d) in omega arith
      ];
  within =
      let a = left.done in
      let b = left.long in
      let w = h.within in omega arith;
}

pub holds-alike : (block : ℕ) (old new : Nodes) (of : OfBlock) → HoldsReady block old of → ((k : ℕ) → is_at (ready_in block) new k ≡ is_at (ready_in block) old k) → HoldsReady block new of
holds-alike block old new of h same = record { ready = λ k. h.ready k ∙ sym (ap once (same k)); within = h.within }

pub holds-raised : (block key : ℕ) (nodes : Nodes) (of : OfBlock) → HoldsReady block nodes of → HoldsReady block (changed_at raised nodes key) of
holds-raised block key nodes of h = holds-alike block nodes (changed_at raised nodes key) of h (λ k. is-changed (ready_in block) raised nodes key k (λ x. refl))

pub ready-raised : (block key : ℕ) (nodes : Nodes) → is_at (ready_in block) nodes key ≡ true → is_at (ready_in block) (changed_at raised nodes key) key ≡ true
ready-raised block key nodes on = is-changed (ready_in block) raised nodes key key (λ x. refl) ∙ on

-- a key of the ready set stands among the first ones
pub stands-there : (block key : ℕ) (nodes : Nodes) (of : OfBlock) → HoldsReady block nodes of → is_at (ready_in block) nodes key ≡ true → 0 < times (take of.done of.ready) key
stands-there block key nodes of h on =
    let a = h.ready key in
    let one : once (is_at (ready_in block) nodes key) ≡ 1 = ap once on in omega arith

pub leaves-then : (b : Bool) (key : ℕ) (old new : Nodes) (of now : OfBlock) → b ≡ true → new ≡ changed_at unreadied old key → HasLeft of now key → LeavesIf b key old new of now
leaves-then b key old new of now t is left = subst (λ a. LeavesIf a key old new of now) (sym t) (is, left)

pub leaves-else : (b : Bool) (key : ℕ) (old new : Nodes) (of now : OfBlock) → b ≡ false → new ≡ old → now ≡ of → LeavesIf b key old new of now
leaves-else b key old new of now f is same = subst (λ a. LeavesIf a key old new of now) (sym f) (is, same)

-- a class was told that wasn't in the ready set, or none was
pub record Stays (block from n : ℕ) (numbers : Numbers) (old new : Nodes) (of now : OfBlock) : Type 0 where
  pub nodes : new ≡ passed_to raised numbers from block old n
  pub list : now ≡ of
  pub out : (j : ℕ) → find numbers n ≡ Some j → (not (j == from) && is_at (ready_in block) old j) ≡ false

-- a class of the ready set was told, and left it
pub record Leaves (block from n : ℕ) (numbers : Numbers) (old new : Nodes) (of now : OfBlock) : Type 0 where
  pub key : ℕ
  pub lead : find numbers n ≡ Some key
  pub apart : not (key == from) ≡ true
  pub on : is_at (ready_in block) old key ≡ true
  pub nodes : new ≡ changed_at unreadied (passed_to raised numbers from block old n) key
  pub left : HasLeft of now key

same-key : (i j : ℕ) (o : Option ℕ) → o ≡ Some i → o ≡ Some j → i ≡ j
same-key i j o a b = cc

pub told-of : (block from n : ℕ) (numbers : Numbers) (old new : Nodes) (of now : OfBlock) → LeavesTo numbers from block old new of now n
    → Stays block from n numbers old new of now ⊎ Leaves block from n numbers old new of now
told-of block from n numbers old new of now h = elim (cases_option (find numbers n)) [
  | inl none ↦
      let p : (new ≡ old) × (now ≡ of) = subst (λ o. MatchOption o ((new ≡ old) × (now ≡ of)) (λ key. LeavesIf (not (key == from) && is_at (ready_in block) old key) key (changed_if_other raised from block old key) new of now)) none h in
      inl (record {
        nodes = p.0 ∙ sym (ap (λ o. option_map_or (changed_if_other raised from block old) o old) none);
        list = p.1;
        out = λ j e. absurd (cc);
      })
  | inr j ↦
      let p : LeavesIf (not (j.0 == from) && is_at (ready_in block) old j.0) j.0 (changed_if_other raised from block old j.0) new of now =
      subst (λ o. MatchOption o ((new ≡ old) × (now ≡ of)) (λ key. LeavesIf (not (key == from) && is_at (ready_in block) old key) key (changed_if_other raised from block old key) new of now)) j.1 h in
      let m : passed_to raised numbers from block old n ≡ changed_if_other raised from block old j.0 = ap (λ o. option_map_or (changed_if_other raised from block old) o old) j.1 in
      elim (cases_Bool (not (j.0 == from) && is_at (ready_in block) old j.0)) [
        | inl t ↦
            let q : (new ≡ changed_at unreadied (changed_if_other raised from block old j.0) j.0) × HasLeft of now j.0 = subst (λ b. LeavesIf b j.0 (changed_if_other raised from block old j.0) new of now) t p in
            let parts = and_parts (not (j.0 == from)) (is_at (ready_in block) old j.0) t in
            inr (record { key = j.0; lead = j.1; apart = parts.0; on = parts.1; nodes = q.0 ∙ ap (λ ns. changed_at unreadied ns j.0) (sym m); left = q.1 })
        | inr f ↦
            let q : (new ≡ changed_if_other raised from block old j.0) × (now ≡ of) = subst (λ b. LeavesIf b j.0 (changed_if_other raised from block old j.0) new of now) f p in
            inl (record { nodes = q.0 ∙ sym m; list = q.1; out = λ i e. ap (λ k. not (k == from) && is_at (ready_in block) old k) (same-key i j.0 (find numbers n) e j.1) ∙ f })
      ]
]

-- what is due once it was raised was due before
due-back : (x : Node) → is_due (raised x) ≡ true → is_due x ≡ true
due-back x t =
    let parts = and_parts (marks_memory x.class.mark) ((raised x).waits == 0) t in
    and_from _ _ parts.0 (eq-eqb x.waits 0 (by (nat_lt x.waits (length x.class.after)) (eqb-true (raised x).waits 0 parts.1)))
  where
    by : (b : Bool) → (if b then x.waits + 1 else x.waits) ≡ 0 → x.waits ≡ 0
    by true e = absurd (omega arith)
    by false e = e

module _ (block from n : ℕ) (numbers : Numbers) (old : Nodes) where
  abbrev mid : Nodes
  mid = passed_to raised numbers from block old n

  ready-mid : (k : ℕ) → is_at (ready_in block) mid k ≡ is_at (ready_in block) old k
  ready-mid k = ready-passed raised numbers from block old n block k (λ x. refl)

  rest-mid : KeepsRest block old mid
  rest-mid = passed-rest raised numbers from block old n (λ x. refl)

  due-mid : (k : ℕ) → is_at (due_in block) mid k ≡ true → is_at (due_in block) old k ≡ true
  due-mid k t =
      let y = at-is (due_in block) mid k t in
      let was = now-was (λ x. if touches numbers from block n k x then raised x else x) (node_at old k) (node_at mid k) y.0 (passed-at raised numbers from block old n k) y.1 in
      let x = was.0 in
      elim (cases_Bool (touches numbers from block n k x)) [
        | inl u ↦
            let is : y.0 ≡ raised x = was.2 ∙ ap (λ b. if b then raised x else x) u in
            let parts = and_parts (y.0.class.block == block) (is_due y.0) y.2 in
            is-at (due_in block) old k x was.1 ∙ and_from _ _ (sym (ap (λ z. z.class.block == block) is) ∙ parts.0) (due-back x (sym (ap is_due is) ∙ parts.1))
        | inr u ↦
            let is : y.0 ≡ x = was.2 ∙ ap (λ b. if b then raised x else x) u in
            is-at (due_in block) old k x was.1 ∙ sym (ap (due_in block) is) ∙ y.2
      ]

  -- a class is as it was that wasn't told
  node-mid : (k : ℕ) → ((x : Node) → node_at old k ≡ Some x → touches numbers from block n k x ≡ false) → node_at mid k ≡ node_at old k
  node-mid k none = passed-at raised numbers from block old n k ∙ none-turned raised (touches numbers from block n k) (node_at old k) none

  -- no class of the ready set was told
  module _ (first : ℕ) (rest : List ℕ) (of : OfBlock) (h : AreLeaving block first numbers old of (passed_by numbers from block (n ∷ rest)))
      (out : (j : ℕ) → find numbers n ≡ Some j → (not (j == from) && is_at (ready_in block) old j) ≡ false) where
    node-ready : (k : ℕ) → is_at (ready_in block) old k ≡ true → node_at mid k ≡ node_at old k
    node-ready k t = node-mid k (λ x at. false_from_ne_true _ (λ u.
        let parts = and_parts (is_other from block k x.class) (leads_at numbers k n) u in
        let other = and_parts (not (k == from)) (x.class.block == block) parts.0 in
        both_ways _ (out k (leads-key numbers k n parts.1)) (and_from _ _ other.0 t)))

    leaving-stays : AreLeaving block first numbers mid of (passed_by numbers from block rest)
    leaving-stays = record {
      holds = holds-alike block old mid of h.holds ready-mid;
      flying = λ k. h.flying k ∙ sym (ap once (bare-test (flying_in block) old mid k rest-mid.all (λ x. refl)));
      counted = h.counted ∙ sym (count-free (of_block block) old mid (λ k. bare-test (of_block block) old mid k rest-mid.all (λ x. refl)));
      room_ready = h.room_ready;
      room_flying = h.room_flying;
      here = bare-test (of_block block) old mid first rest-mid.all (λ x. refl) ∙ h.here;
      off = ready-mid first ∙ h.off;
      due = λ k d. elim (cases_Bool (is_at (ready_in block) old k)) [
        | inl t ↦ ap (λ o. option_map_or (due_in block) o false) (node-ready k t) ∙ h.due k d ∙ sym (ready-mid k)
        | inr f ↦ false_from_ne_true _ (λ u. both_ways _ (h.due k d ∙ f) (due-mid k u)) ∙ sym (ready-mid k ∙ f)
      ];
      linked = linked-kept old mid numbers rest-mid.all h.linked;
      owing = owing-alike mid numbers (λ key c. owed_to old numbers block (drop of.done of.ready) key c + passed_by numbers from block rest key c)
          (λ key c. owed_to mid numbers block (drop of.done of.ready) key c + passed_by numbers from block rest key c)
          (λ key c. ap (λ m. m + passed_by numbers from block rest key c) (sym (owed-kept old mid numbers block (drop of.done of.ready) key c rest-mid.all)))
          (raise-more numbers from block old n rest (owed_to old numbers block (drop of.done of.ready)) h.owing);
    }

  -- the class of the ready set at this key was told, and left it
  module _ (j : ℕ) (lead : find numbers n ≡ Some j) (on : is_at (ready_in block) old j ≡ true) where
    abbrev new : Nodes
    new = changed_at unreadied mid j

    on-mid : is_at (ready_in block) mid j ≡ true
    on-mid = ready-mid j ∙ on

    off-new : is_at (ready_in block) new j ≡ false
    off-new = (flipped-out mid j block (ready-of block mid j on-mid) on-mid).off

    rest-new : KeepsRest block old new
    rest-new = rest-then block old mid new rest-mid (changed-rest unreadied block mid j (λ x. refl) (ready-of block mid j on-mid))

    test-new : (test : Node → Bool) (k : ℕ) → k ≢ j → is_at test new k ≡ is_at test old k
    test-new test k d = ap (λ o. option_map_or test o false) (changed-else unreadied mid j k d ∙ node-mid k (λ x at. and_right (is_other from block k x.class) (leads_at numbers k n)
        (ap (λ o. option_map_or (λ i. i == k) o false) lead ∙ ne_eqb j k (λ e. d (sym e)))))

    module _ (first : ℕ) (rest : List ℕ) (of now : OfBlock) (h : AreLeaving block first numbers old of (passed_by numbers from block (n ∷ rest))) (apart : not (j == from) ≡ true) (left : HasLeft of now j) where
      due-new : is_at (due_in block) new j ≡ false
      due-new =
          let x = at-is (ready_in block) old j on in
          let parts = and_parts (x.0.class.block == block) x.0.ready x.2 in
          let told : touches numbers from block n j x.0 ≡ true = and_from (is_other from block j x.0.class) (leads_at numbers j n) (and_from _ _ apart parts.0)
          (ap (λ o. option_map_or (λ i. i == j) o false) lead ∙ eq-eqb j j refl) in
          let up = raised-up numbers from block old n rest (owed_to old numbers block (drop of.done of.ready)) j x.0 h.owing x.1 told in
          let there : node_at mid j ≡ Some (record x.0 { waits = x.0.waits + 1 }) = passed-at raised numbers from block old n j
          ∙ ap (option_map (λ y. if touches numbers from block n j y then raised y else y)) x.1 ∙ ap (λ b. Some (if b then raised x.0 else x.0)) told ∙ ap (λ y. Some y) up in
          let is : node_at new j ≡ Some (unreadied (record x.0 { waits = x.0.waits + 1 })) = changed-here unreadied mid j ∙ ap (option_map unreadied) there in
          is-at (due_in block) new j (unreadied (record x.0 { waits = x.0.waits + 1 })) is
          ∙ and_right (x.0.class.block == block) _ (and_right (marks_memory x.0.class.mark) _ (ne_eqb (x.0.waits + 1) 0 (λ e. absurd (omega arith))))

      leaving-leaves : AreLeaving block first numbers new now (passed_by numbers from block rest)
      leaving-leaves =
          let count : now.count ≡ of.count = ap (λ o. o.count) left.rest in
          let room_one : now.room_ready ≡ of.room_ready = ap (λ o. o.room_ready) left.rest in
          let room_two : now.room_flying ≡ of.room_flying = ap (λ o. o.room_flying) left.rest in
          let r = h.room_ready in
          let f = h.room_flying in
          record {
            holds = holds-left block j old new of now h.holds left on off-new (test-new (ready_in block));
            flying = λ k. ap (λ o. times o.flying k) left.rest ∙ h.flying k ∙ sym (ap once (bare-test (flying_in block) old new k rest-new.all (λ x. refl)));
            counted = count ∙ h.counted ∙ sym (count-free (of_block block) old new (λ k. bare-test (of_block block) old new k rest-new.all (λ x. refl)));
            room_ready = omega arith;
            room_flying = omega arith;
            here = bare-test (of_block block) old new first rest-new.all (λ x. refl) ∙ h.here;
            off = test-new (ready_in block) first (λ e. both_ways _ h.off (ap (is_at (ready_in block) old) e ∙ on)) ∙ h.off;
            due = λ k d. elim (cases_eq k j) [
              | inl e ↦ rw e (due-new ∙ sym off-new)
              | inr g ↦ test-new (due_in block) k g ∙ h.due k d ∙ sym (test-new (ready_in block) k g)
            ];
            linked = linked-kept old new numbers rest-new.all h.linked;
            owing = owing-alike new numbers
                (λ key c. (owed_to old numbers block (drop of.done of.ready) key c + passed_by numbers from block rest key c) + passed_by numbers j block (followers_at mid j) key c)
                (λ key c. owed_to new numbers block (drop now.done now.ready) key c + passed_by numbers from block rest key c)
                (λ key c.
                let behind : owed_to new numbers block (drop now.done now.ready) key c ≡ passed_by numbers j block (followers_at new j) key c + owed_to new numbers block (drop of.done of.ready) key c =
                ap (λ xs. owed_to new numbers block xs key c) left.behind in
                let kept = owed-kept old new numbers block (drop of.done of.ready) key c rest-new.all in
                let same : passed_by numbers j block (followers_at mid j) key c ≡ passed_by numbers j block (followers_at new j) key c =
                ap (λ xs. passed_by numbers j block xs key c) (followers-kept old mid j rest-mid.all ∙ sym (followers-kept old new j rest-new.all)) in omega arith)
                (unready-more mid numbers j block (λ key c. owed_to old numbers block (drop of.done of.ready) key c + passed_by numbers from block rest key c) (ready-of block mid j on-mid) on-mid
                (linked-kept old mid numbers rest-mid.all h.linked) (raise-more numbers from block old n rest (owed_to old numbers block (drop of.done of.ready)) h.owing));
          }

-- so far: of the followers of a class, the first ones were told
pub record ArePulled (block from : ℕ) (numbers : Numbers) (old new : Nodes) (before after : OfBlock) (place : ℕ) : Type 0 where
  pub holds : HoldsReady block new after
  pub rest : KeepsRest block old new
  pub long : length after.ready ≡ length before.ready
  pub fewer : LosesReady block old new
  pub leaving : (first : ℕ) → AreLeaving block first numbers old before (passed_by numbers from block (followers_at old from))
      → AreLeaving block first numbers new after (passed_by numbers from block (drop place (followers_at old from)))

pub pulled-none : (block from : ℕ) (numbers : Numbers) (nodes : Nodes) (of : OfBlock) → HoldsReady block nodes of → ArePulled block from numbers nodes nodes of of 0
pulled-none block from numbers nodes of h = record { holds = h; rest = rest-same block nodes; long = refl; fewer = λ k f. f; leaving = λ first l. l }

-- one more number was passed on
pulled-step : (block from n : ℕ) (numbers : Numbers) (old mid new : Nodes) (before between after : OfBlock) (place : ℕ) → ArePulled block from numbers old mid before between place
    → drop place (followers_at old from) ≡ n ∷ drop (place + 1) (followers_at old from)
    → Stays block from n numbers mid new between after ⊎ Leaves block from n numbers mid new between after → ArePulled block from numbers old new before after (place + 1)
pulled-step block from n numbers old between new before list after place p next told = elim told [
  | inl s ↦ rw (s.nodes, s.list) (record {
    holds = holds-alike block between (mid block from n numbers between) list p.holds (ready-mid block from n numbers between);
    rest = rest-then block old between (mid block from n numbers between) p.rest (rest-mid block from n numbers between);
    long = p.long;
    fewer = λ k f. ready-mid block from n numbers between k ∙ p.fewer k f;
    leaving = λ first l. leaving-stays block from n numbers between first (drop (place + 1) (followers_at old from)) list
        (subst (λ xs. AreLeaving block first numbers between list (passed_by numbers from block xs)) next (p.leaving first l)) s.out;
  })
  | inr s ↦ rw s.nodes (record {
    holds = holds-left block s.key between (changed_at unreadied (mid block from n numbers between) s.key) list after p.holds s.left s.on (off-new block from n numbers between s.key s.lead s.on)
        (test-new block from n numbers between s.key s.lead s.on (ready_in block));
    rest = rest-then block old between (changed_at unreadied (mid block from n numbers between) s.key) p.rest (rest-new block from n numbers between s.key s.lead s.on);
    long = s.left.long ∙ p.long;
    fewer = λ k f. elim (cases_eq k s.key) [
      | inl e ↦ rw e (off-new block from n numbers between s.key s.lead s.on)
      | inr d ↦ test-new block from n numbers between s.key s.lead s.on (ready_in block) k d ∙ p.fewer k f
    ];
    leaving = λ first l. leaving-leaves block from n numbers between s.key s.lead s.on first (drop (place + 1) (followers_at old from)) list after
        (subst (λ xs. AreLeaving block first numbers between list (passed_by numbers from block xs)) next (p.leaving first l)) s.apart s.left;
  })
]

pub pulled-more : (block from n : ℕ) (numbers : Numbers) (old between new : Nodes) (before list after : OfBlock) (place : ℕ) → ArePulled block from numbers old between before list place
    → slice_get (followers_at between from) place ≡ Some n → LeavesTo numbers from block between new list after n → ArePulled block from numbers old new before after (place + 1)
pulled-more block from n numbers old between new before list after place p at told = pulled-step block from n numbers old between new before list after place p
    (drop-next (followers_at old from) place n (ap (λ xs. slice_get xs place) (sym (followers-kept old between from p.rest.all)) ∙ at)) (told-of block from n numbers between new list after told)

pub pulled-skip : (block from : ℕ) (numbers : Numbers) (old between : Nodes) (before list : OfBlock) (place : ℕ) → ArePulled block from numbers old between before list place
    → slice_get (followers_at between from) place ≡ None → ArePulled block from numbers old between before list (place + 1)
pulled-skip block from numbers old between before list place p at =
    let next : drop (place + 1) (followers_at old from) ≡ drop place (followers_at old from) = drop-last (followers_at old from) place (ap (λ xs. slice_get xs place) (sym (followers-kept old between from p.rest.all)) ∙ at) in
    record {
      holds = p.holds;
      rest = p.rest;
      long = p.long;
      fewer = p.fewer;
      leaving = λ first l. subst (λ xs. AreLeaving block first numbers between list (passed_by numbers from block xs)) (sym next) (p.leaving first l);
    }

-- what is left to pay, told in another way
leaving-alike : (block first : ℕ) (numbers : Numbers) (nodes : Nodes) (of : OfBlock) (debt other : ℕ → Class → ℕ) → ((key : ℕ) (c : Class) → debt key c ≡ other key c)
    → AreLeaving block first numbers nodes of debt → AreLeaving block first numbers nodes of other
leaving-alike block first numbers nodes of debt other same h = record {
  holds = h.holds;
  flying = h.flying;
  counted = h.counted;
  room_ready = h.room_ready;
  room_flying = h.room_flying;
  here = h.here;
  off = h.off;
  due = h.due;
  linked = h.linked;
  owing = owing-alike nodes numbers (λ key c. owed_to nodes numbers block (drop of.done of.ready) key c + debt key c) (λ key c. owed_to nodes numbers block (drop of.done of.ready) key c + other key c)
      (λ key c. ap (λ m. owed_to nodes numbers block (drop of.done of.ready) key c + m) (same key c)) h.owing;
}

pub pulled-all : (block from : ℕ) (numbers : Numbers) (old new : Nodes) (before after : OfBlock) (place : ℕ) → ArePulled block from numbers old new before after place
    → length (followers_at old from) ≡ place → KeepsLeaving block numbers old new before after (passed_by numbers from block (followers_at old from))
pulled-all block from numbers old new before after place p all first l =
    leaving-alike block first numbers new after (passed_by numbers from block (drop place (followers_at old from))) (λ key c. 0)
    (λ key c. ap (λ xs. passed_by numbers from block xs key c) (drop-all (followers_at old from) place all) ∙ passed_by-none numbers from block key c) (p.leaving first l)

-- so far: the followers of some classes that left the ready set were told
pub record ArePulledEach (block : ℕ) (numbers : Numbers) (old new : Nodes) (before after : OfBlock) : Type 0 where
  pub holds : HoldsReady block new after
  pub rest : KeepsRest block old new
  pub fewer : LosesReady block old new
  pub leaving : KeepsLeaving block numbers old new before after (λ key c. 0)

pub each-none : (block : ℕ) (numbers : Numbers) (nodes : Nodes) (of : OfBlock) → HoldsReady block nodes of → ArePulledEach block numbers nodes nodes of of
each-none block numbers nodes of h = record { holds = h; rest = rest-same block nodes; fewer = λ k f. f; leaving = λ first l. l }

-- a key less stands behind those of the ready set
pub first-kept : (of now : OfBlock) (key : ℕ) → LosesLast of now key → take now.done now.ready ≡ take of.done of.ready
first-kept of now key lost =
    let d : now.done ≡ of.done = ap (λ o. o.done) lost.changed in
    ap (λ i. take i now.ready) d ∙ sym (take-append-le of.done now.ready (key ∷ []) lost.within) ∙ ap (take of.done) (sym lost.was)

pub holds-popped : (block : ℕ) (nodes : Nodes) (of now : OfBlock) (key : ℕ) → HoldsReady block nodes of → LosesLast of now key → HoldsReady block nodes now
holds-popped block nodes of now key h lost = record {
  ready = λ k. ap (λ xs. times xs k) (first-kept of now key lost) ∙ h.ready k;
  within =
      let d : now.done ≡ of.done = ap (λ o. o.done) lost.changed in
      let w = lost.within in omega arith;
}

pub fewer-left : (of now : OfBlock) (key : ℕ) → LosesLast of now key → length now.ready < length of.ready
fewer-left of now key lost =
    let a : length of.ready ≡ length (now.ready ++ key ∷ []) = ap length lost.was in
    let b = length-append now.ready (key ∷ []) in omega arith

leaving-popped : (block first : ℕ) (numbers : Numbers) (nodes : Nodes) (of now : OfBlock) (key : ℕ) → LosesLast of now key → AreLeaving block first numbers nodes of (λ k c. 0)
    → AreLeaving block first numbers nodes now (passed_by numbers key block (followers_at nodes key))
leaving-popped block first numbers nodes of now key lost h =
    let d : now.done ≡ of.done = ap (λ o. o.done) lost.changed in
    let count : now.count ≡ of.count = ap (λ o. o.count) lost.changed in
    let room_one : now.room_ready ≡ of.room_ready = ap (λ o. o.room_ready) lost.changed in
    let room_two : now.room_flying ≡ of.room_flying = ap (λ o. o.room_flying) lost.changed in
    let r = h.room_ready in
    let f = h.room_flying in
    let split : drop of.done of.ready ≡ drop now.done now.ready ++ key ∷ [] = ap (drop of.done) lost.was ∙ drop-append-le of.done now.ready (key ∷ []) lost.within ∙ ap (λ i. drop i now.ready ++ key ∷ []) (sym d) in
    record {
      holds = holds-popped block nodes of now key h.holds lost;
      flying = λ k. ap (λ o. times o.flying k) lost.changed ∙ h.flying k;
      counted = count ∙ h.counted;
      room_ready = omega arith;
      room_flying = omega arith;
      here = h.here;
      off = h.off;
      due = h.due;
      linked = h.linked;
      owing = owing-alike nodes numbers (λ k c. owed_to nodes numbers block (drop of.done of.ready) k c + 0)
          (λ k c. owed_to nodes numbers block (drop now.done now.ready) k c + passed_by numbers key block (followers_at nodes key) k c)
          (λ k c.
          let a : owed_to nodes numbers block (drop of.done of.ready) k c ≡ owed_to nodes numbers block (drop now.done now.ready ++ key ∷ []) k c = ap (λ xs. owed_to nodes numbers block xs k c) split in
          let b = owed-last nodes numbers block (drop now.done now.ready) key k c in omega arith) h.owing;
    }

pub each-more : (block key : ℕ) (numbers : Numbers) (old between new : Nodes) (before list popped after : OfBlock) → ArePulledEach block numbers old between before list → LosesLast list popped key
    → HoldsReady block new after → KeepsRest block between new → LosesReady block between new → KeepsLeaving block numbers between new popped after (passed_by numbers key block (followers_at between key))
    → ArePulledEach block numbers old new before after
each-more block key numbers old between new before list popped after p lost holds rest fewer leaving = record {
  holds = holds;
  rest = rest-then block old between new p.rest rest;
  fewer = λ k f. fewer k (p.fewer k f);
  leaving = λ first l. leaving first (leaving-popped block first numbers between list popped key lost (p.leaving first l));
}

-- the first class has left
pub leaving-first : (block key : ℕ) (numbers : Numbers) (old : Nodes) (of now : OfBlock) → IsListed block old of → IsSettled of → AreLinked old numbers → AreCounted old numbers
    → is_at (ready_in block) old key ≡ true → HasLeft of now key → AreLeaving block key numbers (changed_at unreadied old key) now (λ k c. 0)
leaving-first block key numbers old of now l settled linked counted on left =
    let new : Nodes = changed_at unreadied old key in
    let here = ready-of block old key on in
    let flip = flipped-out old key block here on in
    let kept = (changed-rest unreadied block old key (λ x. refl) here).all in
    let count : now.count ≡ of.count = ap (λ o. o.count) left.rest in
    let room_one : now.room_ready ≡ of.room_ready = ap (λ o. o.room_ready) left.rest in
    let room_two : now.room_flying ≡ of.room_flying = ap (λ o. o.room_flying) left.rest in
    let r = l.room_ready in
    let f = l.room_flying in
    record {
      holds = holds-left block key old new of now (record { ready = l.ready; within = l.within }) left on flip.off (λ k d. sym (flip.rest block k (inl d)));
      flying = λ k. ap (λ o. times o.flying k) left.rest ∙ l.flying k ∙ sym (ap once (bare-test (flying_in block) old new k kept (λ x. refl)));
      counted = count ∙ l.counted ∙ sym (count-free (of_block block) old new (λ k. bare-test (of_block block) old new k kept (λ x. refl)));
      room_ready = omega arith;
      room_flying = omega arith;
      here = bare-test (of_block block) old new key kept (λ x. refl) ∙ here;
      off = flip.off;
      due = λ k d. is-changed (due_in block) unreadied old key k (λ x. refl) ∙ once-same (is_at (due_in block) old k) (is_at (ready_in block) old k) (sym (l.due k) ∙ settled-holds block old of l settled k)
          ∙ flip.rest block k (inl d);
      linked = linked-kept old new numbers kept linked;
      owing = owing-alike new numbers (passed_by numbers key block (followers_at old key)) (λ k c. owed_to new numbers block (drop now.done now.ready) k c + 0)
          (λ k c.
          let behind : owed_to new numbers block (drop now.done now.ready) k c ≡ passed_by numbers key block (followers_at new key) k c + 0 =
          ap (λ xs. owed_to new numbers block xs k c) (left.behind ∙ ap (λ xs. key ∷ xs) (drop-all of.ready of.done (sym settled))) in
          let same : passed_by numbers key block (followers_at old key) k c ≡ passed_by numbers key block (followers_at new key) k c = ap (λ xs. passed_by numbers key block xs k c) (sym (followers-kept old new key kept)) in
          omega arith)
          (owing-unready old numbers key block here on linked counted);
    }

pub holds-listed : (block : ℕ) (nodes : Nodes) (of : OfBlock) → IsListed block nodes of → HoldsReady block nodes of
holds-listed block nodes of l = record { ready = l.ready; within = l.within }

pub rest-first : (block key : ℕ) (nodes : Nodes) → is_at (ready_in block) nodes key ≡ true → KeepsRest block nodes (changed_at unreadied nodes key)
rest-first block key nodes on = changed-rest unreadied block nodes key (λ x. refl) (ready-of block nodes key on)

pub fewer-first : (block key : ℕ) (nodes : Nodes) → is_at (ready_in block) nodes key ≡ true → LosesReady block nodes (changed_at unreadied nodes key)
fewer-first block key nodes on k f =
    let flip = flipped-out nodes key block (ready-of block nodes key on) on in
    elim (cases_eq k key) [
      | inl e ↦ rw e flip.off
      | inr d ↦ sym (flip.rest block k (inl d)) ∙ f
    ]

pub holds-first : (block key : ℕ) (old : Nodes) (of now : OfBlock) → HoldsReady block old of → is_at (ready_in block) old key ≡ true → HasLeft of now key → HoldsReady block (changed_at unreadied old key) now
holds-first block key old of now h on left =
    let flip = flipped-out old key block (ready-of block old key on) on in
    holds-left block key old (changed_at unreadied old key) of now h left on flip.off (λ k d. sym (flip.rest block k (inl d)))

-- none waits to be looked at any more
module _ (block first : ℕ) (numbers : Numbers) (nodes : Nodes) (of : OfBlock) (h : AreLeaving block first numbers nodes of (λ k c. 0)) (none : length of.ready ≤ of.done) where
  whole : take of.done of.ready ≡ of.ready
  whole = take_all of.done of.ready none

  times-ready : (k : ℕ) → times of.ready k ≡ once (is_at (ready_in block) nodes k)
  times-ready k = ap (λ xs. times xs k) (sym whole) ∙ h.holds.ready k

  due-first : is_at (due_in block) nodes first ≡ is_at is_due nodes first
  due-first =
      let x = at-is (of_block block) nodes first h.here in
      is-at (due_in block) nodes first x.0 x.1 ∙ ap (λ b. b && is_due x.0) x.2 ∙ sym (is-at is_due nodes first x.0 x.1)

  pub counted-left : AreCounted nodes numbers
  counted-left key x at =
      let o = h.owing key x at in
      let z : owed_to nodes numbers block (drop of.done of.ready) key x.class ≡ 0 = ap (λ xs. owed_to nodes numbers block xs key x.class) (drop_all of.done of.ready none) in omega arith

  pub listed-out : is_at is_due nodes first ≡ false → IsListed block nodes of
  listed-out f = record {
    due = λ k. elim (cases_eq k first) [
      | inl e ↦ rw e (times-ready first ∙ ap once (h.off ∙ sym (due-first ∙ f)))
      | inr d ↦ times-ready k ∙ ap once (sym (h.due k d))
    ];
    ready = h.holds.ready;
    flying = h.flying;
    counted = h.counted;
    within = h.holds.within;
    room_ready = h.room_ready;
    room_flying = h.room_flying;
  }

  pub listed-back : is_at is_due nodes first ≡ true → IsListed block nodes (pushed of first)
  listed-back t = record {
    due = λ k.
        let last = count-last (λ j. j == k) of.ready first in
        let r = times-ready k in
        elim (cases_eq k first) [
          | inl e ↦
              let one : once (first == k) ≡ 1 = ap once (eq-eqb first k (sym e)) in
              let off : once (is_at (ready_in block) nodes k) ≡ 0 = ap once (ap (is_at (ready_in block) nodes) e ∙ h.off) in
              let on : once (is_at (due_in block) nodes k) ≡ 1 = ap once (ap (is_at (due_in block) nodes) e ∙ due-first ∙ t) in omega arith
          | inr d ↦
              let z : once (first == k) ≡ 0 = ap once (ne_eqb first k (λ e. d (sym e))) in
              let same : once (is_at (due_in block) nodes k) ≡ once (is_at (ready_in block) nodes k) = ap once (h.due k d) in omega arith
        ];
    ready = λ k. ap (λ xs. times xs k) (take-append-le of.done of.ready (first ∷ []) h.holds.within) ∙ h.holds.ready k;
    flying = h.flying;
    counted = h.counted;
    within = let e = length-append of.ready (first ∷ []) in let w = h.holds.within in omega arith;
    room_ready = h.room_ready;
    room_flying = h.room_flying;
  }

  pub room-back : is_at is_due nodes first ≡ true → length of.ready < of.room_ready
  room-back t =
      let most = ready-most block nodes (pushed of first) (listed-back t) in
      let room = h.room_ready in
      let e = length-append of.ready (first ∷ []) in omega arith
