-- The least key from one on, and the greatest below one, by an order of the used slots by key.
use Rattle.std.proofs.Common.{◌≡◌, ℕ, suc, ◌-◌, ◌<◌, ◌≤◌, ◌∙◌, inl, inr, Less, Equal, Greater, Ordering, true, false, List, [], ◌∷◌, Option, length, take, get_or, refl, sym, ap, subst, arith}
use Rattle.std.specs.Prelude.{Some, None, All, Contains, MatchOption, is_some, option_map}
use Rattle.std.specs.Cmp.Lexicographic.{slice_cmp}
use Rattle.std.specs.Ordering.{ordering_then, ordering_reverse, nat_cmp, is_lt}
use Rattle.std.proofs.lemmas.Bool.{cases_lt, cases_order}
use Rattle.std.proofs.lemmas.Bool.Decides.{nat_tests}
use Rattle.std.proofs.lemmas.Cmp.{nat_list_cmp_total, tied_itself}
use Rattle.std.proofs.lemmas.List.Elements.{All-nil, All-cons}
use Rattle.std.proofs.lemmas.Option.{slice_get_within, get_or_from_slice_get}
use Rattle.patch_frame.specs.Slot.{SlotFields}
use Rattle.patch_index.specs.declared.reports.EntryReport.{EntryReport}
use Rattle.patch_index.specs.Keys.{is_key_before, is_below, IsNext, NoneFrom, IsPrevious, NoneBelow, IsPlaceBelow}
use Rattle.patch_index.specs.Orders.{comes_before, ranked, key_rank, key_in, is_used, IsOrder, IsPlace}
use Rattle.patch_index.specs.Reporting.{reported, of_slot, of_slots}
use Rattle.patch_index.proofs.Ranked.{passes_at, stands}
use Rattle.patch_index.proofs.Reported.{at_slot}

-- No slot stands below the first one, so the keys alone decide.

keys_decide : (o : Ordering) (n : ℕ) → is_lt o ≡ is_lt (ordering_then o (nat_cmp n 0))
keys_decide Less n = refl
keys_decide Equal n = grind (arith, nat_tests)
keys_decide Greater n = refl

pub below_named : (slots : List (Option SlotFields)) (key : List ℕ) (order : List ℕ) (place : ℕ) → IsPlace (key_in slots) (key, 0) order place → IsPlaceBelow slots (Some key) order place
below_named slots key order place at = record {
  within = at.within;
  point = (
    λ k d low less. keys_decide (slice_cmp nat_cmp (key_in slots (get_or order k d)) key) (get_or order k d) ∙ at.point.0 k d low less,
    λ k d low less. keys_decide (slice_cmp nat_cmp (key_in slots (get_or order k d)) key) (get_or order k d) ∙ at.point.1 k d low less,
  );
}

pub below_all : (slots : List (Option SlotFields)) (order : List ℕ) → IsPlaceBelow slots None order (length order)
below_all slots order = record {
  within = omega arith;
  point = (λ k d low less. refl, λ k d low less. absurd (omega (arith, low, less)));
}

-- Further on in the order no key is before.

not_before : (a b : List ℕ × ℕ) → comes_before a b ≡ true → is_key_before b.0 a.0 ≡ false
not_before a b is = turned (slice_cmp nat_cmp a.0 b.0) (slice_cmp nat_cmp b.0 a.0) (nat_cmp a.1 b.1) (nat_list_cmp_total.antisymm b.0 a.0) is
  where
    turned : (o p q : Ordering) → p ≡ ordering_reverse o → is_lt (ordering_then o q) ≡ true → is_lt p ≡ false
    turned Less p q back less = ap is_lt back
    turned Equal p q back less = ap is_lt back
    turned Greater p q back less = absurd (let g : false ≡ true = less in cc)

upward : (slots : List (Option SlotFields)) (order : List ℕ) → IsOrder (key_in slots) (is_used slots) order → (i j : ℕ) → i ≤ j → j < length order
    → is_key_before (key_in slots (get_or order j 0)) (key_in slots (get_or order i 0)) ≡ false
upward slots order o i j low within = elim (cases_order i j) [
  | inl same ↦
      ap (λ k. is_key_before (key_in slots (get_or order k 0)) (key_in slots (get_or order i 0))) (sym same)
      ∙ ap is_lt (tied_itself nat_list_cmp_total (key_in slots (get_or order i 0)))
  | inr (inl less) ↦ not_before (ranked (key_in slots) (get_or order i 0)) (ranked (key_in slots) (get_or order j 0)) (o.rises i j 0 less within)
  | inr (inr more) ↦ absurd (omega (arith, low, more))
]

-- What is said stands in a slot, and that at a place of the order.

is_said : (slots : List (Option SlotFields)) (s : ℕ) (f : SlotFields) → get_or slots s None ≡ Some f → Contains (of_slots slots) (of_slot f)
is_said slots s f is =
    let at = at_slot slots s f is in
    let number : ℕ = length (of_slots (take s slots)) in
    (number, slice_get_within (of_slots slots) number (of_slot f) at, get_or_from_slice_get (of_slots slots) number (of_slot f) (of_slot f) at)

each_said : (P : List ℕ × ℕ → Type 0) (slots : List (Option SlotFields)) → ((s : ℕ) (f : SlotFields) → get_or slots s None ≡ Some f → P (of_slot f)) → All P (of_slots slots)
each_said P [] each = All-nil P
each_said P (None ∷ slots) each = each_said P slots (λ s. each (suc s))
each_said P (Some f ∷ slots) each = All-cons P (of_slot f) (of_slots slots) (each 0 f refl) (each_said P slots (λ s. each (suc s)))

record HasPlace (slots : List (Option SlotFields)) (order key : List ℕ) : Type 0 where
  at : ℕ
  within : at < length order
  is : key_in slots (get_or order at 0) ≡ key

has_place : (slots : List (Option SlotFields)) (order : List ℕ) → IsOrder (key_in slots) (is_used slots) order → (s : ℕ) (f : SlotFields) → get_or slots s None ≡ Some f
    → HasPlace slots order f.key
has_place slots order o s f is =
    let there = stands (key_in slots) (is_used slots) order o s (ap is_some is) in
    record { at = there.at; within = there.within; is = ap (key_in slots) there.is ∙ ap key_rank is }

used_says : (o : Option SlotFields) → is_some o ≡ true → (f : SlotFields) × (o ≡ Some f)
used_says None used = absurd (let g : false ≡ true = used in cc)
used_says (Some f) used = (f, refl)

abbrev held : List ℕ × ℕ → Option (List ℕ × ℕ) → List ℕ × ℕ
held d None = d
held d (Some x) = x

told_so : (A : Type 0) (P : List ℕ × ℕ → Type 0) (f : SlotFields) (r : Option EntryReport) → option_map reported r ≡ Some (of_slot f) → P (of_slot f)
    → MatchOption r A (λ it. P (reported it))
told_so A P f None is here = absurd (let g : None ≡ Some (of_slot f) = is in cc)
told_so A P f (Some it) is here = subst P (sym (ap (held (of_slot f)) is)) here

-- The next one.

pub none_from : (slots : List (Option SlotFields)) (order from : List ℕ) (place : ℕ) → IsOrder (key_in slots) (is_used slots) order → IsPlaceBelow slots (Some from) order place
    → place ≡ length order → NoneFrom (of_slots slots) from
none_from slots order from place o below end =
    each_said (λ other. is_key_before other.0 from ≡ true) slots (λ s f is.
    let there = has_place slots order o s f is in
    let within = there.within in
    ap (λ k. is_key_before k from) (sym there.is) ∙ below.point.0 there.at 0 (omega arith) (omega (arith, within, end)))

is_next : (slots : List (Option SlotFields)) (order from : List ℕ) (place : ℕ) → IsOrder (key_in slots) (is_used slots) order → IsPlaceBelow slots (Some from) order place
    → place < length order → (f : SlotFields) → get_or slots (get_or order place 0) None ≡ Some f → IsNext (of_slots slots) from (of_slot f)
is_next slots order from place o below within f is =
    let key : key_in slots (get_or order place 0) ≡ f.key = ap key_rank is in
    record {
      stands = is_said slots (get_or order place 0) f is;
      reached = ap (λ k. is_key_before k from) (sym key) ∙ below.point.1 place 0 (omega arith) within;
      least = each_said (λ other. is_key_before other.0 from ≡ false → is_key_before other.0 f.key ≡ false) slots (λ s g said reached.
          let there = has_place slots order o s g said in
          elim (cases_lt there.at place) [
            | inl less ↦
                let wrong : true ≡ false = sym (below.point.0 there.at 0 (omega arith) less) ∙ ap (λ k. is_key_before k from) there.is ∙ reached in
                absurd (cc)
            | inr more ↦
                ap (λ k. is_key_before k f.key) (sym there.is) ∙ ap (is_key_before (key_in slots (get_or order there.at 0))) (sym key)
                ∙ upward slots order o place there.at more there.within
          ]);
    }

pub next_told : (slots : List (Option SlotFields)) (order from : List ℕ) (place : ℕ) → IsOrder (key_in slots) (is_used slots) order → IsPlaceBelow slots (Some from) order place
    → place < length order → (r : Option EntryReport) → option_map reported r ≡ option_map of_slot (get_or slots (get_or order place 0) None)
    → MatchOption r (NoneFrom (of_slots slots) from) (λ it. IsNext (of_slots slots) from (reported it))
next_told slots order from place o below within r is =
    let says = used_says (get_or slots (get_or order place 0) None) (passes_at (key_in slots) (is_used slots) order o place 0 within) in
    told_so (NoneFrom (of_slots slots) from) (IsNext (of_slots slots) from) says.0 r (is ∙ ap (option_map of_slot) says.1) (is_next slots order from place o below within says.0 says.1)

-- The one before.

pub none_below : (slots : List (Option SlotFields)) (order : List ℕ) (before : Option (List ℕ)) (place : ℕ) → IsOrder (key_in slots) (is_used slots) order
    → IsPlaceBelow slots before order place → place ≡ 0 → NoneBelow (of_slots slots) before
none_below slots order before place o below start =
    each_said (λ other. is_below before other.0 ≡ false) slots (λ s f is.
    let there = has_place slots order o s f is in
    ap (is_below before) (sym there.is) ∙ below.point.1 there.at 0 (omega (arith, start)) there.within)

is_previous : (slots : List (Option SlotFields)) (order : List ℕ) (before : Option (List ℕ)) (place : ℕ) → IsOrder (key_in slots) (is_used slots) order
    → IsPlaceBelow slots before order place → 0 < place → (f : SlotFields) → get_or slots (get_or order (place - 1) 0) None ≡ Some f → IsPrevious (of_slots slots) before (of_slot f)
is_previous slots order before place o below some f is =
    let key : key_in slots (get_or order (place - 1) 0) ≡ f.key = ap key_rank is in
    let upto = below.within in
    record {
      stands = is_said slots (get_or order (place - 1) 0) f is;
      below = ap (is_below before) (sym key) ∙ below.point.0 (place - 1) 0 (omega arith) (omega (arith, some));
      greatest = each_said (λ other. is_below before other.0 ≡ true → is_key_before f.key other.0 ≡ false) slots (λ s g said under.
          let there = has_place slots order o s g said in
          elim (cases_lt there.at place) [
            | inl less ↦
                ap (λ k. is_key_before k g.key) (sym key) ∙ ap (is_key_before (key_in slots (get_or order (place - 1) 0))) (sym there.is)
                ∙ upward slots order o there.at (place - 1) (omega (arith, less)) (omega (arith, some, upto))
            | inr more ↦
                let wrong : false ≡ true = sym (below.point.1 there.at 0 more there.within) ∙ ap (is_below before) there.is ∙ under in
                absurd (cc)
          ]);
    }

pub previous_told : (slots : List (Option SlotFields)) (order : List ℕ) (before : Option (List ℕ)) (place : ℕ) → IsOrder (key_in slots) (is_used slots) order
    → IsPlaceBelow slots before order place → 0 < place → (r : Option EntryReport) → option_map reported r ≡ option_map of_slot (get_or slots (get_or order (place - 1) 0) None)
    → MatchOption r (NoneBelow (of_slots slots) before) (λ it. IsPrevious (of_slots slots) before (reported it))
previous_told slots order before place o below some r is =
    let upto = below.within in
    let says = used_says (get_or slots (get_or order (place - 1) 0) None) (passes_at (key_in slots) (is_used slots) order o (place - 1) 0 (omega (arith, some, upto))) in
    told_so (NoneBelow (of_slots slots) before) (IsPrevious (of_slots slots) before) says.0 r (is ∙ ap (option_map of_slot) says.1) (is_previous slots order before place o below some says.0 says.1)

-- of equal lists
pub same_keys : (slots others : List (Option SlotFields)) (ks by_key : List ℕ) → others ≡ slots → by_key ≡ ks → IsOrder (key_in slots) (is_used slots) ks
    → IsOrder (key_in others) (is_used others) by_key
same_keys slots others ks by_key a b order = subst (λ x. IsOrder (key_in others) (is_used others) x) (sym b) (subst (λ x. IsOrder (key_in x) (is_used x) ks) (sym a) order)
