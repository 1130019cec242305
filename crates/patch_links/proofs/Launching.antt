-- A block whose ready set was put in flight.
use Rattle.std.proofs.Common.{◌≡◌, ℕ, ◌+◌, ◌≤◌, ◌∙◌, inl, inr, Bool, true, false, List, [], ◌++◌, length, refl, sym, ap, arith, subst, Option, Some, None, take, length-append}
use Rattle.std.specs.Prelude.{◌==◌, ◌&&◌, not, if◌then◌else◌}
use Rattle.std.specs.Option.{option_map, option_map_or}
use Rattle.std.proofs.lemmas.Bool.{cases_Bool, cases_eq, both_ways, eq-eqb, eqb-true, and_from, and_parts, and_left, and_right, false_from_ne_true}
use Rattle.std.proofs.lemmas.List.{take_all}
use Rattle.patch_model.specs.Entry.{is_among, marks_memory, marks_flight}
use Rattle.patch_model.specs.declared.patches.Mark.{Mark}
use Rattle.patch_model.specs.declared.patches.Mark.TheVariants.{Memory, Flight, Durable}
use Rattle.patch_model.specs.Member.{In, among-In, In-among}
use Rattle.patch_links.specs.State.{Class, Node, Nodes, Numbers, find, class_at, slots_of, node_at, is_at}
use Rattle.patch_links.specs.Waiting.{of_block, ready_in, is_due, is_unmet, unmet_of, AreCounted}
use Rattle.patch_links.specs.Lists.{OfBlock, Blocks, of_at, times, once, HoldsJust, due_in, flying_in, classes_of, IsListed, IsSettled, AreListed, AreSettled, ChangesOf}
use Rattle.patch_links.specs.Invariants.{bare, plain, KeepsRest, KeepsPlain, Stands}
use Rattle.patch_links.specs.MarkFlight.{flown, flown_node, AreFlown, AreNodesFlown, IsPutInFlight}
use Rattle.patch_links.proofs.Counts.{count-append, count-le, count-some, once-most, times-In}
use Rattle.patch_links.proofs.Places.{cases_option, same_some, is-at, at-is, slots-at, count-alike, fits}
use Rattle.patch_links.proofs.Waits.{bare-was, now-was, kept-if, unmet-alike, tested-alike}
use Rattle.patch_links.proofs.Keeping.{bare-plain, plain-then, plain-test, members-kept, linked-plain}
use Rattle.patch_links.proofs.Listings.{due-of, listed-alike, alike-others}

-- what is in memory isn't in flight
pub not-both : (m : Mark) → marks_memory m ≡ true → marks_flight m ≡ false
not-both Memory t = refl
not-both Flight t = absurd (cc)
not-both Durable t = refl

-- what a list holds that holds each passing key just once
pub among-is : (test : Node → Bool) (nodes : Nodes) (keys : List ℕ) → HoldsJust test nodes keys → (key : ℕ) → is_among keys key ≡ is_at test nodes key
among-is test nodes keys h key = elim (cases_Bool (is_at test nodes key)) [
  | inl t ↦
      let e = h key in
      let one : once (is_at test nodes key) ≡ 1 = ap once t in
      let r = count-some (λ k. k == key) keys (omega arith) in
      In-among keys key (subst (In keys) (eqb-true r.0 key r.2) r.1) ∙ sym t
  | inr t ↦ false_from_ne_true _ (λ u.
      let e = h key in
      let none : once (is_at test nodes key) ≡ 0 = ap once t in
      let some = times-In keys key (among-In keys key u) in absurd (omega arith)) ∙ sym t
]

-- where all are in the ready set that are due
pub settled-holds : (block : ℕ) (nodes : Nodes) (of : OfBlock) → IsListed block nodes of → IsSettled of → HoldsJust (ready_in block) nodes of.ready
settled-holds block nodes of l s key = ap (λ xs. times xs key) (sym (take_all of.done of.ready (let e = s in omega arith))) ∙ l.ready key

-- there is room for the keys of the ready set behind those in flight
pub room-flying : (block : ℕ) (nodes : Nodes) (of : OfBlock) → IsListed block nodes of → length of.flying + length of.ready ≤ of.room_flying
room-flying block nodes of l =
    let e = length-append of.flying of.ready in
    let c = l.counted in
    let r = l.room_flying in
    let most : length (of.flying ++ of.ready) ≤ classes_of block nodes = fits (of_block block) (of.flying ++ of.ready) nodes (λ k.
    let a = count-append (λ j. j == k) of.flying of.ready in
    let d = l.due k in
    let f = l.flying k in
    let both = apart k in omega arith) in
    omega arith
  where
    apart : (k : ℕ) → once (is_at (flying_in block) nodes k) + once (is_at (due_in block) nodes k) ≤ once (is_at (of_block block) nodes k)
    apart k = by (node_at nodes k)
      where
        by : (o : Option Node) → once (option_map_or (flying_in block) o false) + once (option_map_or (due_in block) o false) ≤ once (option_map_or (of_block block) o false)
        by None = omega arith
        by (Some x) = of-two (x.class.block == block) x.class.mark (x.waits == 0)
          where
            of-two : (b : Bool) (m : Mark) (w : Bool) → once (b && marks_flight m) + once (b && (marks_memory m && w)) ≤ once b
            of-two true m w = elim (cases_Bool (marks_memory m)) [
              | inl t ↦
                  let f : once (marks_flight m) ≡ 0 = ap once (not-both m t) in
                  let most = once-most (marks_memory m && w) in omega arith
              | inr t ↦
                  let f : once (marks_memory m && w) ≡ 0 = ap once (and_left (marks_memory m) w t) in
                  let most = once-most (marks_flight m) in omega arith
            ]
            of-two false m w = omega arith

pub flown-plain : (set : ℕ → Bool) (old new : Nodes) → AreNodesFlown set old new → length new ≡ length old → KeepsPlain old new
flown-plain set old new f long = record { long = long; plain = λ k. ap (option_map plain) (f k) ∙ by (set k) (node_at old k) }
  where
    by : (b : Bool) (o : Option Node) → option_map plain (option_map (λ x. if b then flown_node x else x) o) ≡ option_map plain o
    by b None = refl
    by true (Some x) = refl
    by false (Some x) = refl

module _ (block : ℕ) (numbers : Numbers) (old mid new : Nodes) (of : OfBlock) (l : IsListed block old of) (s : IsSettled of) (rest : KeepsRest block old mid)
    (none : (k : ℕ) → is_at (ready_in block) mid k ≡ false) (before : AreCounted old numbers) (counted : AreCounted mid numbers)
    (f : AreNodesFlown (is_among of.ready) mid new) (long : length new ≡ length mid) where
  set-due : (k : ℕ) → is_among of.ready k ≡ is_at (due_in block) old k
  set-due = among-is (due_in block) old of.ready l.due

  ready-none : (b k : ℕ) → is_at (ready_in b) new k ≡ is_at (ready_in b) mid k
  ready-none b k = tested-alike (ready_in b) (λ x. if is_among of.ready k then flown_node x else x) mid new k (f k) (λ x. kept-if (ready_in b) flown_node (is_among of.ready k) x refl)

  pub counted-flown : AreCounted new numbers
  counted-flown key z at =
      let was = now-was (λ x. if is_among of.ready key then flown_node x else x) (node_at mid key) (node_at new key) z (f key) at in
      let y = was.0 in
      let c = counted key y was.1 in
      let waits : z.waits ≡ y.waits = ap (λ x. x.waits) was.2 ∙ kept-if (λ x. x.waits) flown_node (is_among of.ready key) y refl in
      let same : unmet_of new numbers key z.class ≡ unmet_of new numbers key y.class = ap (λ x. unmet_of new numbers key x.class) was.2 ∙ kept-if (λ x. unmet_of new numbers key x.class) flown_node (is_among of.ready key) y refl in
      let alike = unmet-alike mid new numbers key y.class (λ j. ready-none y.class.block j) in omega arith

  unmet-more : (k : ℕ) (c : Class) → c.block ≡ block → unmet_of old numbers k c ≤ unmet_of mid numbers k c
  unmet-more k c of_it = count-le (is_unmet old numbers k c.block) (is_unmet mid numbers k c.block) c.after (λ n. by (find numbers n))
    where
      by : (o : Option ℕ) → option_map_or (λ j. not (j == k) && not (is_at (ready_in c.block) old j)) o false ≡ true → option_map_or (λ j. not (j == k) && not (is_at (ready_in c.block) mid j)) o false ≡ true
      by None t = t
      by (Some j) t = and_from _ _ (and_parts (not (j == k)) _ t).0 (ap (λ b. not (is_at (ready_in b) mid j)) of_it ∙ ap not (none j))

  -- no class is due that wasn't, and each that was is in flight
  not-due : (k : ℕ) → is_at (due_in block) new k ≡ false
  not-due k = false_from_ne_true _ (λ t.
      let z = at-is (due_in block) new k t in
      let was = now-was (λ x. if is_among of.ready k then flown_node x else x) (node_at mid k) (node_at new k) z.0 (f k) z.1 in
      let y = was.0 in
      let parts = and_parts (z.0.class.block == block) (is_due z.0) z.2 in
      elim (cases_Bool (is_among of.ready k)) [
        | inl u ↦
            let is : z.0 ≡ flown_node y = was.2 ∙ ap (λ b. if b then flown_node y else y) u in
            absurd (both_ways _ (ap is_due is) parts.1)
        | inr u ↦
            let is : z.0 ≡ y = was.2 ∙ ap (λ b. if b then flown_node y else y) u in
            let x = bare-was old mid k y (rest.all.bare k) was.1 in
            let here : y.class.block ≡ block = ap (λ w. w.class.block) (sym is) ∙ eqb-true z.0.class.block block parts.0 in
            let due = and_parts (marks_memory z.0.class.mark) (z.0.waits == 0) parts.1 in
            let no_wait : y.waits ≡ 0 = ap (λ w. w.waits) (sym is) ∙ eqb-true z.0.waits 0 due.1 in
            let now = counted k y was.1 in
            let then_ = before k x.0 x.1 in
            let class : x.0.class ≡ y.class = sym x.2 in
            let more = unmet-more k y.class here in
            let same : unmet_of old numbers k x.0.class ≡ unmet_of old numbers k y.class = ap (unmet_of old numbers k) class in
            let waits : x.0.waits ≡ 0 = omega arith in
            let memory : marks_memory x.0.class.mark ≡ true = ap (λ c. marks_memory c.mark) class ∙ ap (λ w. marks_memory w.class.mark) (sym is) ∙ due.0 in
            let was_due : is_at (due_in block) old k ≡ true = is-at (due_in block) old k x.0 x.1
            ∙ and_from _ _ (eq-eqb x.0.class.block block (ap (λ c. c.block) class ∙ here)) (and_from _ _ memory (eq-eqb x.0.waits 0 waits)) in
            absurd (both_ways _ u (set-due k ∙ was_due))
      ])

  flying-now : (k : ℕ) → once (is_at (flying_in block) old k) + once (is_at (due_in block) old k) ≡ once (is_at (flying_in block) new k)
  flying-now k = elim (cases_Bool (is_among of.ready k)) [
    | inl u ↦
        let x = at-is (due_in block) old k (sym (set-due k) ∙ u) in
        let parts = and_parts (x.0.class.block == block) (is_due x.0) x.2 in
        let memory = (and_parts (marks_memory x.0.class.mark) (x.0.waits == 0) parts.1).0 in
        let y = there k x.0 x.1 in
        let here : y.0.class.block ≡ block = ap (λ c. c.block) y.2 ∙ eqb-true x.0.class.block block parts.0 in
        let now : node_at new k ≡ Some (flown_node y.0) = f k ∙ ap (λ b. option_map (λ w. if b then flown_node w else w) (node_at mid k)) u ∙ ap (option_map flown_node) y.1 in
        let a : once (is_at (flying_in block) new k) ≡ 1 = ap once (is-at (flying_in block) new k (flown_node y.0) now ∙ and_from _ _ (eq-eqb y.0.class.block block here) refl) in
        let b : once (is_at (flying_in block) old k) ≡ 0 = ap once (is-at (flying_in block) old k x.0 x.1 ∙ and_right (x.0.class.block == block) _ (not-both x.0.class.mark memory)) in
        let c : once (is_at (due_in block) old k) ≡ 1 = ap once (sym (set-due k) ∙ u) in omega arith
    | inr u ↦
        let c : once (is_at (due_in block) old k) ≡ 0 = ap once (sym (set-due k) ∙ u) in
        let same : node_at new k ≡ node_at mid k = f k ∙ ap (λ b. option_map (λ w. if b then flown_node w else w) (node_at mid k)) u ∙ same_map (node_at mid k) in
        let a : once (is_at (flying_in block) new k) ≡ once (is_at (flying_in block) mid k) = ap (λ o. once (option_map_or (flying_in block) o false)) same in
        let b : once (is_at (flying_in block) mid k) ≡ once (is_at (flying_in block) old k) = ap once (bare-test k) in omega arith
  ]
    where
      same_map : (o : Option Node) → option_map (λ x. x) o ≡ o
      same_map None = refl
      same_map (Some x) = refl

      there : (j : ℕ) (x : Node) → node_at old j ≡ Some x → (y : Node) × (node_at mid j ≡ Some y) × (y.class ≡ x.class)
      there j x at = elim (cases_option (node_at mid j)) [
        | inl gone ↦
            let a : option_map bare (node_at mid j) ≡ None = ap (option_map bare) gone in
            let b : option_map bare (node_at old j) ≡ Some (bare x) = ap (option_map bare) at in
            let e = rest.all.bare j in absurd (cc)
        | inr y ↦ let w = bare-was old mid j y.0 (rest.all.bare j) y.1 in (y.0, y.1, w.2 ∙ ap (λ z. z.class) (same_some w.0 x (sym w.1 ∙ at)))
      ]

      bare-test : (j : ℕ) → is_at (flying_in block) mid j ≡ is_at (flying_in block) old j
      bare-test j = sym (by (node_at mid j)) ∙ ap (λ o. option_map_or (flying_in block) o false) (rest.all.bare j) ∙ by (node_at old j)
        where
          by : (o : Option Node) → option_map_or (flying_in block) (option_map bare o) false ≡ option_map_or (flying_in block) o false
          by None = refl
          by (Some x) = refl

  kept : KeepsPlain old new
  kept = plain-then old mid new (bare-plain old mid rest.all) (flown-plain (is_among of.ready) mid new f long)

  pub listed-flown : (now : OfBlock) → now.ready ≡ [] → now.done ≡ 0 → now.flying ≡ of.flying ++ of.ready → now.count ≡ of.count → now.room_ready ≡ of.room_ready → of.room_flying ≤ now.room_flying
      → IsListed block new now
  listed-flown now ready done flying count room_ready room_flying = record {
    due = λ k. ap (λ xs. times xs k) ready ∙ sym (ap once (not-due k));
    ready = λ k. ap (λ xs. times (take now.done xs) k) ready ∙ ap (λ i. times (take i []) k) done ∙ sym (ap once (ready-none block k ∙ none k));
    flying = λ k.
        let a : times now.flying k ≡ times of.flying k + times of.ready k = ap (λ xs. times xs k) flying ∙ count-append (λ j. j == k) of.flying of.ready in
        let b = l.flying k in
        let d = l.due k in
        let e = flying-now k in omega arith;
    counted = count ∙ l.counted ∙ sym (count-alike (of_block block) old new kept.long (λ k. plain-test (of_block block) old new k kept (λ x. refl)));
    within = let e = done in omega arith;
    room_ready = let a = l.room_ready in omega arith;
    room_flying = let a = l.room_flying in omega arith;
  }

  pub put-in-flight : IsPutInFlight block (is_among of.ready) old new
  put-in-flight = record {
    flown = λ k. slots-at new k ∙ ap (option_map (λ x. x.class)) (f k) ∙ by (is_among of.ready k) (node_at mid k) ∙ ap (option_map (λ c. if is_among of.ready k then flown c else c)) (class-kept k)
        ∙ sym (ap (option_map (λ c. if is_among of.ready k then flown c else c)) (slots-at old k));
    plain = kept;
    others = λ k t.
        let off : is_among of.ready k ≡ false = set-due k ∙ false_from_ne_true _ (λ u. both_ways _ t (due-of block old k u)) in
        f k ∙ ap (λ b. option_map (λ w. if b then flown_node w else w) (node_at mid k)) off ∙ same_map (node_at mid k) ∙ rest.others k t;
  }
    where
      same_map : (o : Option Node) → option_map (λ x. x) o ≡ o
      same_map None = refl
      same_map (Some x) = refl

      by : (b : Bool) (o : Option Node) → option_map (λ x. x.class) (option_map (λ x. if b then flown_node x else x) o) ≡ option_map (λ c. if b then flown c else c) (option_map (λ x. x.class) o)
      by b None = refl
      by true (Some x) = refl
      by false (Some x) = refl

      class-kept : (k : ℕ) → option_map (λ x. x.class) (node_at mid k) ≡ option_map (λ x. x.class) (node_at old k)
      class-kept k = sym (of-bare (node_at mid k)) ∙ ap (option_map (λ x. x.class)) (rest.all.bare k) ∙ of-bare (node_at old k)
        where
          of-bare : (o : Option Node) → option_map (λ x. x.class) (option_map bare o) ≡ option_map (λ x. x.class) o
          of-bare None = refl
          of-bare (Some x) = refl

-- one block's lists were changed with its classes
pub listed-all : (block : ℕ) (old new : Nodes) (before after : Blocks) (of : OfBlock) → AreListed old before → ChangesOf block before after of → IsListed block new of → KeepsPlain old new
    → ((key : ℕ) → is_at (of_block block) old key ≡ false → node_at new key ≡ node_at old key) → AreListed new after
listed-all block old new before after of l c here k others b = elim (cases_eq b block) [
  | inl e ↦ rw (e, c.here) here
  | inr n ↦ rw (c.others b n) (listed-alike b old new (of_at before b) (alike-others block b old new k others n) (l b))
]

pub settled-all : (block : ℕ) (before after : Blocks) (of : OfBlock) → AreSettled before → ChangesOf block before after of → IsSettled of → AreSettled after
settled-all block before after of s c here b = elim (cases_eq b block) [
  | inl e ↦ rw (e, c.here) here
  | inr n ↦ rw (c.others b n) (s b)
]

pub stands-flown : (block : ℕ) (set : ℕ → Bool) (numbers : Numbers) (old new : Nodes) (before after : Blocks) (of : OfBlock) → Stands old numbers before → ChangesOf block before after of
    → IsListed block new of → IsSettled of → AreCounted new numbers → IsPutInFlight block set old new → Stands new numbers after
stands-flown block set numbers old new before after of s c l t counted f = record {
  members = members-kept old new numbers f.plain s.members;
  linked = linked-plain old new numbers f.plain s.linked;
  counted = counted;
  listed = listed-all block old new before after of s.listed c l f.plain f.others;
  settled = settled-all block before after of s.settled c t;
}

pub none-flown : (nodes : Nodes) → AreFlown (is_among []) (slots_of nodes) (slots_of nodes)
none-flown nodes k = sym (by (class_at (slots_of nodes) k))
  where
    by : (o : Option Class) → option_map (λ c. c) o ≡ o
    by None = refl
    by (Some c) = refl
