-- A record that was drawn up of two.
use Rattle.std.proofs.Common.{◌≡◌, ℕ, ◌+◌, ◌-◌, ◌≤◌, ◌∙◌, true, false, inl, inr, List, [], ◌++◌, length, drop, min, max, replicate, sym, ap, arith}
use Rattle.std.specs.Prelude.{◌==◌, nat_le, Some, None, ◌&&◌}
use Rattle.std.proofs.Math.ListN.{drop_of_length-le}
use Rattle.std.proofs.lemmas.Bool.{and_parts, leb-true, eqb-true, cases_Bool, or_left}
use Rattle.std.proofs.lemmas.List.{append-nil, length-replicate}
use Rattle.std.proofs.lemmas.List.Folds.{list_any-append}
use Rattle.std.proofs.lemmas.List.Sorted.{IsPermutation-refl}
use Rattle.patch_model.specs.Entry.{is_among}
use Rattle.patch_records.specs.Records.{Class}
use Rattle.patch_records.specs.Exchanges.{laid_over}
use Rattle.patch_records.specs.Merged.{IsUnion, merged, IsMerged, IsDrawn, has_room_for, is_around, with_lists, with_lists_of, with_all_of}
use Rattle.patch_records.proofs.Bytes.{length-laid_over}

-- a record without lists is drawn up of two classes, where the lower one's have room for the higher one's
pub drawn-growing : (low high c : Class) → has_room_for low high ≡ true → c ≡ merged low high [] [] c.room
    → IsDrawn low high (Some (record { class = c; growing = true }))
drawn-growing low high c fits is = record {
  room = λ t. fits;
  is = record {
    members = IsPermutation-refl (low.members ++ high.members);
    after = IsPermutation-refl (low.after ++ high.after);
    is = ap (λ z. with_lists z (with_lists_of low high)) is;
  };
}

-- the bytes of a lower class that has them all hide those of the higher one
pub around-saved : (start stop above end : ℕ) (over under : List ℕ) → start ≤ above → end ≤ stop → start + length over ≡ stop → above + length under ≤ end
    → laid_over (start - min start above) over (laid_over (above - min start above) under (replicate (max stop end - min start above) 0)) ≡ over
around-saved start stop above end over under from to full held =
    let zeros = length-replicate {A = ℕ} (max stop end - min start above) 0 in
    let long = length-laid_over (above - min start above) under (replicate (max stop end - min start above) 0) (omega (arith, zeros)) in
    let none : start - min start above ≡ 0 = omega arith in
    let rest : drop (0 + length over) (laid_over (above - min start above) under (replicate (max stop end - min start above) 0)) ≡ [] =
    drop_of_length-le _ {i = 0 + length over} (omega (arith, zeros, long)) in
    rw (none, rest) (append-nil over)

pub around-at : (low high : Class) → is_around low high ≡ true
    → (low.start ≤ high.start) × (high.stop ≤ low.stop) × (low.start + length low.saved ≡ low.stop)
around-at low high around =
    let p = and_parts (nat_le low.start high.start && nat_le high.stop low.stop) _ around in
    let q = and_parts (nat_le low.start high.start) _ p.0 in
    (leb-true _ _ q.0, leb-true _ _ q.1, eqb-true _ _ p.1)

-- it is both, once it has the lists of both
pub with-lists-union : (c lists low high : Class) → c.name ≡ min low.name high.name → c.members ≡ lists.members
    → (has_room_for low high ≡ true → lists ≡ with_lists_of low high) → (has_room_for low high ≡ false → lists ≡ low) → IsUnion c low high
with-lists-union c lists low high named same room none = record {
  named = named;
  members = λ n on.
      let here : is_among lists.members n ≡ true = ap (λ ms. is_among ms n) (sym same) ∙ on in
      elim (cases_Bool (has_room_for low high)) [
        | inl t ↦ sym (list_any-append (λ m. m == n) low.members high.members) ∙ ap (λ (z : Class). is_among z.members n) (sym (room t)) ∙ here
        | inr f ↦ or_left _ (is_among high.members n) (ap (λ (z : Class). is_among z.members n) (sym (none f)) ∙ here)
      ];
}

-- none is drawn up of two, where the lower one saved all bytes of both, and its lists have room
pub drawn-around : (low high : Class) → has_room_for low high ≡ true → is_around low high ≡ true → high.start + length high.saved ≤ high.stop
    → IsDrawn low high None
drawn-around low high fits around held =
    let a = around-at low high around in
    let from = a.0 in
    let to = a.1 in
    let first : min low.start high.start ≡ low.start = omega arith in
    let last : max low.stop high.stop ≡ low.stop = omega arith in
    record {
      room = λ t. fits;
      is = record {
        members = IsPermutation-refl (low.members ++ high.members);
        after = IsPermutation-refl (low.after ++ high.after);
        is = ap (λ (z : ℕ). record (with_all_of low high) { start = z }) (sym first)
            ∙ ap (λ (z : ℕ). record (with_all_of low high) { start = min low.start high.start; stop = z }) (sym last)
            ∙ ap (λ (z : List ℕ). record (with_all_of low high) { start = min low.start high.start; stop = max low.stop high.stop; saved = z })
            (sym (around-saved low.start low.stop high.start high.stop low.saved high.saved from to a.2 held));
      };
    }

-- one with lists, of any two
pub drawn-whole : (low high c : Class) → IsMerged low high c → IsDrawn low high (Some (record { class = c; growing = false }))
drawn-whole low high c is = record { room = λ t. absurd (cc); is = is }
