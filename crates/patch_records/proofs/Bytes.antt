-- Bytes of a class, and bytes laid on others.
use Rattle.std.proofs.Common.{◌≡◌, ℕ, ◌+◌, ◌-◌, ◌<◌, ◌≤◌, ◌⊎◌, ◌∙◌, true, false, inl, inr, List, ◌++◌, length, take, drop, get_or, sym, ap, arith, append_assoc, length-append}
use Rattle.std.specs.Prelude.{nat_le, nat_lt, slice_range}
use Rattle.std.proofs.lemmas.Bool.{and_parts, and_from, and_left, and_right, le-leb, lt-ltb, lt-leb, le-ltb, leb-true, ltb-true}
use Rattle.std.proofs.lemmas.List.{length-take-le, take_at, drop_at, places}
use Rattle.std.proofs.lemmas.List.Edits.{length-between, split_between}
use Rattle.patch_records.specs.Records.{Class, spans}
use Rattle.patch_records.specs.Exchanges.{laid_over}

pub spans-from : (c : Class) (x : ℕ) → c.start ≤ x → x < c.stop → spans c x ≡ true
spans-from c x from to = and_from _ _ (le-leb _ _ from) (lt-ltb _ _ to)

pub spans-at : (c : Class) (x : ℕ) → spans c x ≡ true → (c.start ≤ x) × (x < c.stop)
spans-at c x t = let p = and_parts _ _ t in (leb-true _ _ p.0, ltb-true _ _ p.1)

pub spans-not : (c : Class) (x : ℕ) → (x < c.start) ⊎ (c.stop ≤ x) → spans c x ≡ false
spans-not c x (inl before) = and_left _ (nat_lt x c.stop) (lt-leb _ _ before)
spans-not c x (inr behind) = and_right (nat_le c.start x) _ (le-ltb _ _ behind)

-- the bytes of a list with others laid on it
pub laid-before : (bytes saved : List ℕ) (start x : ℕ) → x < start → start + length saved ≤ length bytes
    → get_or (take start bytes ++ saved ++ drop (start + length saved) bytes) x 0 ≡ get_or bytes x 0
laid-before bytes saved start x before fits = grind (arith, places)

pub laid-behind : (bytes saved : List ℕ) (start x : ℕ) → start + length saved ≤ x → start + length saved ≤ length bytes
    → get_or (take start bytes ++ saved ++ drop (start + length saved) bytes) x 0 ≡ get_or bytes x 0
laid-behind bytes saved start x behind fits = grind (arith, places)

pub laid-inside : (bytes saved : List ℕ) (start x : ℕ) → start ≤ x → x < start + length saved → start + length saved ≤ length bytes
    → get_or (take start bytes ++ saved ++ drop (start + length saved) bytes) x 0 ≡ get_or saved (x - start) 0
laid-inside bytes saved start x from to fits = grind (arith, places)

pub range-at : (bytes : List ℕ) (start stop x : ℕ) → start ≤ x → x < stop → stop ≤ length bytes
    → get_or (slice_range bytes start stop) (x - start) 0 ≡ get_or bytes x 0
range-at bytes start stop x from to fits = grind (arith, places)

pub length-laid_over : (place : ℕ) (over bytes : List ℕ) → place + length over ≤ length bytes → length (laid_over place over bytes) ≡ length bytes
length-laid_over place over bytes fits = grind (arith, places)

pub outside-low : (over bytes : List ℕ) (place i : ℕ) → place + length over ≤ length bytes → (i < place) ⊎ (place + length over ≤ i)
    → get_or (laid_over place over bytes) i 0 ≡ get_or bytes i 0
outside-low over bytes place i fits (inl before) = laid-before bytes over place i before fits
outside-low over bytes place i fits (inr behind) = laid-behind bytes over place i behind fits

-- the bytes under a span, laid back on what was laid there
pub put_back : (bytes over : List ℕ) (start : ℕ) → start + length over ≤ length bytes
    → let kept = slice_range bytes start (start + length over) in
    let now = take start bytes ++ over ++ drop (start + length over) bytes in
    take start now ++ kept ++ drop (start + length kept) now ≡ bytes
put_back bytes over start fits =
    let rest : List ℕ = drop (start + length over) bytes in
    let before : length (take start bytes) ≡ start = length-take-le start bytes (omega arith) in
    let width : length (slice_range bytes start (start + length over)) ≡ length over = omega (arith, length-between bytes start (start + length over) fits) in
    let lower : take start (take start bytes ++ over ++ rest) ≡ take start bytes =
    ap (take start) (append_assoc (take start bytes) over rest) ∙ take_at (take start bytes) (over ++ rest) start before in
    let upper : drop (start + length over) (take start bytes ++ over ++ rest) ≡ rest =
    drop_at (take start bytes ++ over) rest (start + length over) (length-append (take start bytes) over ∙ ap (λ n. n + length over) before) in
    rw (width, lower, upper)
    (append_assoc (take start bytes) (slice_range bytes start (start + length over)) rest ∙ sym (split_between bytes start (start + length over) (omega arith)))
