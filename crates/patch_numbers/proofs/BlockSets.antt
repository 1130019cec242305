-- Sets of block numbers by the bits of words.
use Rattle.std.proofs.Common.{◌≡◌, ◌≢◌, ◌∙◌, ℕ, zero, suc, [], ◌∷◌, true, false, ◌+◌, ◌-◌, ◌*◌, ◌/◌, ◌%◌, ◌^◌, ◌<◌, ◌≤◌, ◌++◌, ◌==◌, ◌&&◌, ◌||◌, not, refl, sym, ap, inl, inr, Option, List, length, take, drop, Some, None, arith, bit_and, bit_or, slice_set, slice_index_or}
use Rattle.std.specs.List.{list_all}
use Rattle.std.specs.Int.{bit_at, trailing_zeros, w64}
use Rattle.std.proofs.Math.Nat.{div-div-eq-div-mul, div-le_self, le-mul_of_pos_right}
use Rattle.std.proofs.lemmas.Nat.{pow-add, pow_pos, one_shl}
use Rattle.std.proofs.lemmas.Nat.Bits.{bit_at-trailing_zeros, bit_at_set_same, bit_at_set_other, bit_at_clear_same, bit_at_clear_other, bit_at_above, bit_at-zero, and_pow, same_from_bits}
use Rattle.std.proofs.lemmas.Bool.{cases_Bool, cases_eq, cases_lt, and_parts, eqb-true, eq-eqb, ne_eqb}
use Rattle.std.proofs.Math.Seq.{take-append_seam}
use Rattle.std.proofs.lemmas.List.{get_or-set_same, get_or-set_other, get_or_past, length-set}
use Rattle.patch_numbers.specs.BlockSets.{holds, HasRoom, IsPutIn, IsTakenOut, IsSummary, AreLevels, IsLowestFrom, IsLeastInWord, IsLeastFrom}

-- a shifted word
pub shifted : (n k i : ℕ) → bit_at (n / 2 ^ k) i ≡ bit_at n (k + i)
shifted n k i = ap (λ q. q % 2) (div-div-eq-div-mul n (2 ^ k) (2 ^ i) ∙ ap (λ p. n / p) (sym (pow-add 2 k i)))

-- what is at a place of the changed words, where the place is the one that was changed, or another
at_same : (words : List ℕ) (row word : ℕ) → row < length words → slice_index_or (slice_set words row word) row 0 ≡ word
at_same words row word h = get_or-set_same words row word 0 h

at_other : (words : List ℕ) (row other word : ℕ) → other ≢ row → slice_index_or (slice_set words row word) other 0 ≡ slice_index_or words other 0
at_other words row other word ne = get_or-set_other words row other word 0 ne

-- two numbers are one if their rows and places are
one_number : (n m : ℕ) → n / 64 ≡ m / 64 → n % 64 ≡ m % 64 → n ≡ m
one_number n m row place = omega arith

is_inserted : (words : List ℕ) (number n : ℕ) → HasRoom words number
    → holds (slice_set words (number / 64) (bit_or (slice_index_or words (number / 64) 0) (1 * 2 ^ (number % 64) % 18446744073709551616))) n
    ≡ (n == number || holds words n)
is_inserted words number n row =
    let word = slice_index_or words (number / 64) 0 in
    let now = bit_or word (1 * 2 ^ (number % 64) % 18446744073709551616) in
    let inside : number % 64 < 64 = omega arith in
    elim (cases_eq (n / 64) (number / 64)) [
      | inr other ↦
          let e : (n == number) ≡ false = ne_eqb n number (λ is. other (ap (λ k. k / 64) is)) in
          rw e (ap (λ w. bit_at w (n % 64) == 1) (at_other words (number / 64) (n / 64) now other))
      | inl same ↦
          let here : slice_index_or (slice_set words (number / 64) now) (n / 64) 0 ≡ now = ap (λ k. slice_index_or (slice_set words (number / 64) now) k 0) same ∙ at_same words (number / 64) now row in
          let was : slice_index_or words (n / 64) 0 ≡ word = ap (λ k. slice_index_or words k 0) same in
          elim (cases_eq (n % 64) (number % 64)) [
            | inl place ↦
                let e : (n == number) ≡ true = eq-eqb n number (one_number n number same place) in
                let bit : bit_at now (n % 64) ≡ 1 = ap (bit_at now) place ∙ bit_at_set_same w64 word (number % 64) inside in
                rw e (ap (λ w. bit_at w (n % 64) == 1) here ∙ ap (λ b. b == 1) bit)
            | inr apart ↦
                let e : (n == number) ≡ false = ne_eqb n number (λ is. apart (ap (λ k. k % 64) is)) in
                let bit : bit_at now (n % 64) ≡ bit_at word (n % 64) = bit_at_set_other w64 word (number % 64) inside (n % 64) apart in
                rw e (ap (λ w. bit_at w (n % 64) == 1) here ∙ ap (λ b. b == 1) bit ∙ ap (λ w. bit_at w (n % 64) == 1) (sym was))
          ]
    ]

is_removed : (words : List ℕ) (number n : ℕ) → HasRoom words number
    → holds (slice_set words (number / 64) (bit_and (slice_index_or words (number / 64) 0) (18446744073709551615 - 1 * 2 ^ (number % 64) % 18446744073709551616))) n
    ≡ (not (n == number) && holds words n)
is_removed words number n row =
    let word = slice_index_or words (number / 64) 0 in
    let now = bit_and word (18446744073709551615 - 1 * 2 ^ (number % 64) % 18446744073709551616) in
    let inside : number % 64 < 64 = omega arith in
    elim (cases_eq (n / 64) (number / 64)) [
      | inr other ↦
          let e : (n == number) ≡ false = ne_eqb n number (λ is. other (ap (λ k. k / 64) is)) in
          rw e (ap (λ w. bit_at w (n % 64) == 1) (at_other words (number / 64) (n / 64) now other))
      | inl same ↦
          let here : slice_index_or (slice_set words (number / 64) now) (n / 64) 0 ≡ now = ap (λ k. slice_index_or (slice_set words (number / 64) now) k 0) same ∙ at_same words (number / 64) now row in
          let was : slice_index_or words (n / 64) 0 ≡ word = ap (λ k. slice_index_or words k 0) same in
          elim (cases_eq (n % 64) (number % 64)) [
            | inl place ↦
                let e : (n == number) ≡ true = eq-eqb n number (one_number n number same place) in
                let bit : bit_at now (n % 64) ≡ 0 = ap (bit_at now) place ∙ bit_at_clear_same w64 word (number % 64) inside in
                rw e (ap (λ w. bit_at w (n % 64) == 1) here ∙ ap (λ b. b == 1) bit)
            | inr apart ↦
                let e : (n == number) ≡ false = ne_eqb n number (λ is. apart (ap (λ k. k % 64) is)) in
                let bit : bit_at now (n % 64) ≡ bit_at word (n % 64) = bit_at_clear_other w64 word (number % 64) inside (n % 64) (omega arith) apart in
                rw e (ap (λ w. bit_at w (n % 64) == 1) here ∙ ap (λ b. b == 1) bit ∙ ap (λ w. bit_at w (n % 64) == 1) (sym was))
          ]
    ]

pub is_put_in : (words : List ℕ) (number : ℕ) → HasRoom words number
    → IsPutIn words (slice_set words (number / 64) (bit_or (slice_index_or words (number / 64) 0) (1 * 2 ^ (number % 64) % 18446744073709551616))) number
is_put_in words number row = record {
  numbers = λ n. is_inserted words number n row;
  others = λ place other. at_other words (number / 64) place _ other;
  long = length-set words (number / 64) _;
}

pub is_taken_out : (words : List ℕ) (number : ℕ) → HasRoom words number
    → IsTakenOut words (slice_set words (number / 64) (bit_and (slice_index_or words (number / 64) 0) (18446744073709551615 - 1 * 2 ^ (number % 64) % 18446744073709551616))) number
is_taken_out words number row = record {
  numbers = λ n. is_removed words number n row;
  others = λ place other. at_other words (number / 64) place _ other;
  long = length-set words (number / 64) _;
}

-- a word that has a bit isn't 0
not_zero : (word place : ℕ) → bit_at word place ≡ 1 → (word == 0) ≡ false
not_zero word place bit = ne_eqb word 0 (λ z. let no : 0 ≡ 1 = sym (bit_at-zero place) ∙ ap (λ w. bit_at w place) (sym z) ∙ bit in omega arith)

-- the word of a number that is held isn't 0, so the words reach to it
held_word : (words : List ℕ) (n : ℕ) → holds words n ≡ true → (slice_index_or words (n / 64) 0 == 0) ≡ false
held_word words n is = not_zero (slice_index_or words (n / 64) 0) (n % 64) (eqb-true _ 1 is)

pub held_within : (words : List ℕ) (n : ℕ) → holds words n ≡ true → HasRoom words n
held_within words n is = elim (cases_lt (n / 64) (length words)) [
  | inl within ↦ within
  | inr past ↦
      let none : (slice_index_or words (n / 64) 0 == 0) ≡ true = ap (λ w. w == 0) (get_or_past words (n / 64) 0 past) in
      let some = held_word words n is in
      cc
]

-- Where a word changes, the set above tells those that aren't 0 once its place is noted.

-- the word has a bit more
put_there : (words put : List ℕ) (number : ℕ) → IsPutIn words put number → holds put number ≡ true
put_there words put number changed = changed.numbers number ∙ ap (λ b. b || holds words number) (eq-eqb number number refl)

put_above : (above noted words put : List ℕ) (number : ℕ) → IsSummary above words → IsPutIn above noted (number / 64) → IsPutIn words put number → IsSummary noted put
put_above above noted words put number known note changed place = elim (cases_eq place (number / 64)) [
  | inl same ↦
      let e : (place == number / 64) ≡ true = eq-eqb place (number / 64) same in
      let there = held_word put number (put_there words put number changed) in
      let some : (slice_index_or put place 0 == 0) ≡ false = ap (λ k. slice_index_or put k 0 == 0) same ∙ there in
      note.numbers place ∙ ap (λ b. b || holds above place) e ∙ sym (ap not some)
  | inr other ↦
      let e : (place == number / 64) ≡ false = ne_eqb place (number / 64) other in
      note.numbers place ∙ ap (λ b. b || holds above place) e ∙ known place ∙ ap (λ w. not (w == 0)) (sym (changed.others place other))
]

-- the word is 0
taken_above : (above noted words left : List ℕ) (number : ℕ) → IsSummary above words → IsTakenOut above noted (number / 64) → IsTakenOut words left number
    → slice_index_or left (number / 64) 0 ≡ 0 → IsSummary noted left
taken_above above noted words left number known note changed none place = elim (cases_eq place (number / 64)) [
  | inl same ↦
      let e : (place == number / 64) ≡ true = eq-eqb place (number / 64) same in
      let here : (slice_index_or left place 0 == 0) ≡ true = ap (λ k. slice_index_or left k 0 == 0) same ∙ ap (λ w. w == 0) none in
      note.numbers place ∙ ap (λ b. not b && holds above place) e ∙ sym (ap not here)
  | inr other ↦
      let e : (place == number / 64) ≡ false = ne_eqb place (number / 64) other in
      note.numbers place ∙ ap (λ b. not b && holds above place) e ∙ known place ∙ ap (λ w. not (w == 0)) (sym (changed.others place other))
]

-- the word is 0 just if it was
still_above : (above words changed : List ℕ) (at : ℕ) → IsSummary above words
    → ((place : ℕ) → place ≢ at → slice_index_or changed place 0 ≡ slice_index_or words place 0)
    → (slice_index_or changed at 0 == 0) ≡ (slice_index_or words at 0 == 0) → IsSummary above changed
still_above above words changed at known others still place = elim (cases_eq place at) [
  | inl same ↦
      let e : (slice_index_or changed place 0 == 0) ≡ (slice_index_or words place 0 == 0) =
      ap (λ k. slice_index_or changed k 0 == 0) same ∙ still ∙ ap (λ k. slice_index_or words k 0 == 0) (sym same)
      in known place ∙ ap not (sym e)
  | inr other ↦ known place ∙ ap (λ w. not (w == 0)) (sym (others place other))
]

put_beside : (above words put : List ℕ) (number : ℕ) → IsSummary above words → IsPutIn words put number
    → false ≡ (slice_index_or words (number / 64) 0 == 0) → IsSummary above put
put_beside above words put number known changed was =
    still_above above words put (number / 64) known changed.others (held_word put number (put_there words put number changed) ∙ was)

taken_beside : (above words left : List ℕ) (number : ℕ) → IsSummary above words → IsTakenOut words left number
    → (slice_index_or left (number / 64) 0 == 0) ≡ (slice_index_or words (number / 64) 0 == 0) → IsSummary above left
taken_beside above words left number known changed still = still_above above words left (number / 64) known changed.others still

-- The levels after a number came in: the first word that wasn't 0 is the last that changes.

pub put_in_words : (words rows sheets top put : List ℕ) (number : ℕ) → AreLevels words rows sheets top → IsPutIn words put number
    → false ≡ (slice_index_or words (number / 64) 0 == 0) → AreLevels put rows sheets top
put_in_words words rows sheets top put number were changed was = record {
  few_words = rw changed.long were.few_words;
  few_rows = were.few_rows;
  covered = rw changed.long were.covered;
  of_words = put_beside rows words put number were.of_words changed was;
  of_rows = were.of_rows;
  of_sheets = were.of_sheets;
}

pub put_in_rows : (words rows sheets top put noted : List ℕ) (number : ℕ) → AreLevels words rows sheets top → IsPutIn words put number
    → IsPutIn rows noted (number / 64) → false ≡ (slice_index_or rows (number / 64 / 64) 0 == 0) → AreLevels put noted sheets top
put_in_rows words rows sheets top put noted number were changed note was = record {
  few_words = rw changed.long were.few_words;
  few_rows = rw note.long were.few_rows;
  covered = rw (changed.long, note.long) were.covered;
  of_words = put_above rows noted words put number were.of_words note changed;
  of_rows = put_beside sheets rows noted (number / 64) were.of_rows note was;
  of_sheets = were.of_sheets;
}

pub put_in_sheets : (words rows sheets top put noted marked : List ℕ) (number : ℕ) → AreLevels words rows sheets top → IsPutIn words put number
    → IsPutIn rows noted (number / 64) → IsPutIn sheets marked (number / 64 / 64) → false ≡ (slice_index_or sheets (number / 64 / 64 / 64) 0 == 0)
    → AreLevels put noted marked top
put_in_sheets words rows sheets top put noted marked number were changed note mark was = record {
  few_words = rw changed.long were.few_words;
  few_rows = rw note.long were.few_rows;
  covered = rw (changed.long, note.long) were.covered;
  of_words = put_above rows noted words put number were.of_words note changed;
  of_rows = put_above sheets marked rows noted (number / 64) were.of_rows mark note;
  of_sheets = put_beside top sheets marked (number / 64 / 64) were.of_sheets mark was;
}

pub put_in_all : (words rows sheets top put noted marked headed : List ℕ) (number : ℕ) → AreLevels words rows sheets top → IsPutIn words put number
    → IsPutIn rows noted (number / 64) → IsPutIn sheets marked (number / 64 / 64) → IsPutIn top headed (number / 64 / 64 / 64)
    → AreLevels put noted marked headed
put_in_all words rows sheets top put noted marked headed number were changed note mark head = record {
  few_words = rw changed.long were.few_words;
  few_rows = rw note.long were.few_rows;
  covered = rw (changed.long, note.long) were.covered;
  of_words = put_above rows noted words put number were.of_words note changed;
  of_rows = put_above sheets marked rows noted (number / 64) were.of_rows mark note;
  of_sheets = put_above top headed sheets marked (number / 64 / 64) were.of_sheets head mark;
}

-- The levels after a number went: the first word that isn't 0 by that is the last that changes.

pub taken_of_words : (words rows sheets top left : List ℕ) (number : ℕ) → AreLevels words rows sheets top → IsTakenOut words left number
    → (slice_index_or left (number / 64) 0 == 0) ≡ (slice_index_or words (number / 64) 0 == 0) → AreLevels left rows sheets top
taken_of_words words rows sheets top left number were changed is = record {
  few_words = rw changed.long were.few_words;
  few_rows = were.few_rows;
  covered = rw changed.long were.covered;
  of_words = taken_beside rows words left number were.of_words changed is;
  of_rows = were.of_rows;
  of_sheets = were.of_sheets;
}

pub taken_of_rows : (words rows sheets top left noted : List ℕ) (number : ℕ) → AreLevels words rows sheets top → IsTakenOut words left number
    → slice_index_or left (number / 64) 0 ≡ 0 → IsTakenOut rows noted (number / 64) → (slice_index_or noted (number / 64 / 64) 0 == 0) ≡ (slice_index_or rows (number / 64 / 64) 0 == 0)
    → AreLevels left noted sheets top
taken_of_rows words rows sheets top left noted number were changed none note is = record {
  few_words = rw changed.long were.few_words;
  few_rows = rw note.long were.few_rows;
  covered = rw (changed.long, note.long) were.covered;
  of_words = taken_above rows noted words left number were.of_words note changed none;
  of_rows = taken_beside sheets rows noted (number / 64) were.of_rows note is;
  of_sheets = were.of_sheets;
}

pub taken_of_sheets : (words rows sheets top left noted marked : List ℕ) (number : ℕ) → AreLevels words rows sheets top → IsTakenOut words left number
    → slice_index_or left (number / 64) 0 ≡ 0 → IsTakenOut rows noted (number / 64) → slice_index_or noted (number / 64 / 64) 0 ≡ 0
    → IsTakenOut sheets marked (number / 64 / 64) → (slice_index_or marked (number / 64 / 64 / 64) 0 == 0) ≡ (slice_index_or sheets (number / 64 / 64 / 64) 0 == 0) → AreLevels left noted marked top
taken_of_sheets words rows sheets top left noted marked number were changed none note bare mark is = record {
  few_words = rw changed.long were.few_words;
  few_rows = rw note.long were.few_rows;
  covered = rw (changed.long, note.long) were.covered;
  of_words = taken_above rows noted words left number were.of_words note changed none;
  of_rows = taken_above sheets marked rows noted (number / 64) were.of_rows mark note bare;
  of_sheets = taken_beside top sheets marked (number / 64 / 64) were.of_sheets mark is;
}

pub taken_of_all : (words rows sheets top left noted marked headed : List ℕ) (number : ℕ) → AreLevels words rows sheets top → IsTakenOut words left number
    → slice_index_or left (number / 64) 0 ≡ 0 → IsTakenOut rows noted (number / 64) → slice_index_or noted (number / 64 / 64) 0 ≡ 0
    → IsTakenOut sheets marked (number / 64 / 64) → slice_index_or marked (number / 64 / 64 / 64) 0 ≡ 0
    → IsTakenOut top headed (number / 64 / 64 / 64) → AreLevels left noted marked headed
taken_of_all words rows sheets top left noted marked headed number were changed none note bare mark blank head = record {
  few_words = rw changed.long were.few_words;
  few_rows = rw note.long were.few_rows;
  covered = rw (changed.long, note.long) were.covered;
  of_words = taken_above rows noted words left number were.of_words note changed none;
  of_rows = taken_above sheets marked rows noted (number / 64) were.of_rows mark note bare;
  of_sheets = taken_above top headed sheets marked (number / 64 / 64) were.of_sheets head mark blank;
}

-- what is left in a vector of which all was written
pub written : (count : ℕ) (new old : List ℕ) → length new ≡ count → take count (new ++ drop (length new) old) ≡ new
written count new old long = ap (λ k. take k (new ++ drop (length new) old)) (sym long) ∙ take-append_seam new (drop (length new) old)

-- the numbers in a vector of which all words were written
pub put_in_vector : (count : ℕ) (put words was : List ℕ) (number : ℕ) → IsPutIn words put number → length words ≡ count → words ≡ was
    → (n : ℕ) → holds (take count (put ++ drop (length put) words)) n ≡ (n == number || holds was n)
put_in_vector count put words was number changed long same n =
    ap (λ all. holds all n) (written count put words (changed.long ∙ long)) ∙ changed.numbers n ∙ ap (λ all. n == number || holds all n) same

pub taken_of_vector : (count : ℕ) (left words was : List ℕ) (number : ℕ) → IsTakenOut words left number → length words ≡ count → words ≡ was
    → (n : ℕ) → holds (take count (left ++ drop (length left) words)) n ≡ (not (n == number) && holds was n)
taken_of_vector count left words was number changed long same n =
    ap (λ all. holds all n) (written count left words (changed.long ∙ long)) ∙ changed.numbers n ∙ ap (λ all. not (n == number) && holds all n) same

-- words that are longer, with the same words where there were some, and 0 behind them
pub longer_above : (above raised words longer : List ℕ) → IsSummary above words
    → ((place : ℕ) → slice_index_or raised place 0 ≡ slice_index_or above place 0)
    → ((place : ℕ) → slice_index_or longer place 0 ≡ slice_index_or words place 0) → IsSummary raised longer
longer_above above raised words longer known upper lower place =
    ap (λ w. bit_at w (place % 64) == 1) (upper (place / 64)) ∙ known place ∙ ap (λ w. not (w == 0)) (sym (lower place))

-- the lowest bit from a place on, by the word that is shifted
pub none_lower : (word from i : ℕ) → word / 2 ^ from ≡ 0 → from ≤ i → bit_at word i ≡ 0
none_lower word from i none low =
    let e : from + (i - from) ≡ i = omega arith in
    ap (bit_at word) (sym e) ∙ sym (shifted word from (i - from)) ∙ ap (λ w. bit_at w (i - from)) none ∙ bit_at-zero (i - from)

below_word : (word from : ℕ) → word < 18446744073709551616 → word / 2 ^ from < 18446744073709551616
below_word word from h = let le = div-le_self word (2 ^ from) in omega arith

pub lowest : (word from : ℕ) → word < 18446744073709551616 → from < 64 → word / 2 ^ from ≢ 0 → IsLowestFrom word from (Some (from + trailing_zeros w64 (word / 2 ^ from)))
lowest word from fits inside some =
    let rest = word / 2 ^ from in
    let t = bit_at-trailing_zeros w64 rest (omega arith) (below_word word from fits) in
    let bit : bit_at word (from + trailing_zeros w64 rest) ≡ 1 = sym (shifted word from (trailing_zeros w64 rest)) ∙ t.1 in (
      omega arith,
      elim (cases_lt (from + trailing_zeros w64 rest) 64) [
        | inl under ↦ under
        | inr over ↦ let no : 0 ≡ 1 = sym (bit_at_above word 64 (from + trailing_zeros w64 rest) fits over) ∙ bit in absurd (omega arith)
      ],
      bit,
      λ i low under.
          let e : from + (i - from) ≡ i = omega arith in
          ap (bit_at word) (sym e) ∙ sym (shifted word from (i - from)) ∙ t.2 (i - from) (omega arith),
    )

-- a number whose word and place these are
of_word : (words : List ℕ) (n at : ℕ) → n / 64 ≡ at → bit_at (slice_index_or words at 0) (n % 64) ≡ 0 → holds words n ≡ false
of_word words n at is none = ap (λ k. bit_at (slice_index_or words k 0) (n % 64) == 1) is ∙ ap (λ b. b == 1) none

-- a number of a word that is 0
of_empty : (words : List ℕ) (n : ℕ) → slice_index_or words (n / 64) 0 ≡ 0 → holds words n ≡ false
of_empty words n none = ap (λ w. bit_at w (n % 64) == 1) none ∙ ap (λ b. b == 1) (bit_at-zero (n % 64))

least_there : (words : List ℕ) (from least : ℕ) → IsLeastInWord words from (Some least) → holds words least ≡ true
least_there words from least (same, (after, inside, set, below)) =
    ap (λ k. bit_at (slice_index_or words k 0) (least % 64) == 1) same ∙ ap (λ b. b == 1) set

low_number : (words : List ℕ) (n : ℕ) → length words ≤ 262144 → holds words n ≡ true → n < 16777216
low_number words n few is = let within = held_within words n is in omega arith

-- the least number is found in the word that is looked at first
pub least_here : (words : List ℕ) (from least : ℕ) → length words ≤ 262144 → IsLeastInWord words from (Some least) → IsLeastFrom words from (Some least)
least_here words from least few (same, (after, inside, set, below)) =
    let there = least_there words from least (same, (after, inside, set, below)) in (
      omega arith,
      low_number words least few there,
      there,
      λ n above under. of_word words n (from / 64) (omega arith) (below (n % 64) (omega arith) (omega arith)),
    )

-- a place that the set above hasn't
empty_below : (above words : List ℕ) (place : ℕ) → IsSummary above words → holds above place ≡ false → slice_index_or words place 0 ≡ 0
empty_below above words place known none =
    let f : not (slice_index_or words place 0 == 0) ≡ false = sym (known place) ∙ none in
    elim (cases_Bool (slice_index_or words place 0 == 0)) [ inl t ↦ eqb-true _ 0 t | inr g ↦ absurd (let h = sym (ap not g) ∙ f in cc) ]

-- nothing is there in the first word from a number on, nor in words behind it that the set above hasn't
skipped : (above words : List ℕ) (from n : ℕ) → IsSummary above words → IsLeastInWord words from None → from ≤ n
    → (from / 64 + 1 ≤ n / 64 → holds above (n / 64) ≡ false) → holds words n ≡ false
skipped above words from n known here low none = elim (cases_lt (from / 64) (n / 64)) [
  | inr same ↦ of_word words n (from / 64) (omega arith) (here (n % 64) (omega arith))
  | inl later ↦ of_empty words n (empty_below above words (n / 64) known (none (omega arith)))
]

pub none_left : (above words : List ℕ) (from : ℕ) → IsSummary above words → IsLeastInWord words from None
    → IsLeastFrom above (from / 64 + 1) None → IsLeastFrom words from None
none_left above words from known here none n low = skipped above words from n known here low (λ later. none (n / 64) later)

-- the word that is found isn't 0, so it has a least number
not_empty : (above words : List ℕ) (from place : ℕ) → IsSummary above words → IsLeastFrom above from (Some place)
    → IsLeastInWord words (place * 64) None → ⊥
not_empty above words from place known found none =
    let at : place * 64 / 64 ≡ place = omega arith in
    let z : slice_index_or words (place * 64 / 64) 0 ≡ 0 = same_from_bits _ 0 (λ i. none i (omega arith) ∙ sym (bit_at-zero i)) in
    let t : true ≡ false = sym found.2 ∙ known place ∙ ap (λ k. not (slice_index_or words k 0 == 0)) (sym at) ∙ ap (λ w. not (w == 0)) z in
    cc

least_later : (above words : List ℕ) (from place least : ℕ) → length words ≤ 262144 → IsSummary above words → IsLeastInWord words from None
    → IsLeastFrom above (from / 64 + 1) (Some place) → IsLeastInWord words (place * 64) (Some least) → IsLeastFrom words from (Some least)
least_later above words from place least few known here (after, within, is, first) there =
    let later = least_here words (place * 64) least few there in
    let behind = later.0 in (
      omega arith,
      later.1,
      later.2,
      λ n low under. elim (cases_lt n (place * 64)) [
        | inl before ↦ skipped above words from n known here low (λ up. first (n / 64) up (omega arith))
        | inr reached ↦ later.3 n reached under
      ],
    )

pub least_found : (above words : List ℕ) (from place : ℕ) (least : Option ℕ) → length words ≤ 262144 → IsSummary above words → IsLeastInWord words from None
    → IsLeastFrom above (from / 64 + 1) (Some place) → IsLeastInWord words (place * 64) least → IsLeastFrom words from least
least_found above words from place None few known here found none = absurd (not_empty above words (from / 64 + 1) place known found none)
least_found above words from place (Some least) few known here found there = least_later above words from place least few known here found there

-- Words that are all 0.

zero_words : (words : List ℕ) (i : ℕ) → list_all (λ w. w == 0) words ≡ true → slice_index_or words i 0 ≡ 0
zero_words [] i all = refl
zero_words (w ∷ ws) zero all = eqb-true w 0 (and_parts (w == 0) (list_all (λ v. v == 0) ws) all).0
zero_words (w ∷ ws) (suc i) all = zero_words ws i (and_parts (w == 0) (list_all (λ v. v == 0) ws) all).1

pub none_there : (words : List ℕ) → list_all (λ w. w == 0) words ≡ true → (n : ℕ) → holds words n ≡ false
none_there words all n = of_empty words n (zero_words words (n / 64) all)

pub nothing_above : (above words : List ℕ) → list_all (λ w. w == 0) above ≡ true → list_all (λ w. w == 0) words ≡ true → IsSummary above words
nothing_above above words none all place = none_there above none place ∙ sym (ap (λ w. not (w == 0)) (zero_words words place all))

-- where a number isn't held nothing is taken
none_taken : (words : List ℕ) (number : ℕ) → holds words number ≡ false → IsTakenOut words words number
none_taken words number absent = record {
  numbers = λ n. elim (cases_eq n number) [
    | inl same ↦
        let e : (n == number) ≡ true = eq-eqb n number same in
        ap (holds words) same ∙ absent ∙ sym (ap (λ b. not b && holds words n) e)
    | inr other ↦ sym (ap (λ b. not b && holds words n) (ne_eqb n number other))
  ];
  others = λ place other. refl;
  long = refl;
}

-- the words don't reach to it
pub none_beyond : (words : List ℕ) (number : ℕ) → length words ≤ number / 64 → IsTakenOut words words number
none_beyond words number beyond = none_taken words number (of_empty words number (get_or_past words (number / 64) 0 beyond))

-- its bit isn't set
pub none_set : (words : List ℕ) (number : ℕ)
    → bit_and (slice_index_or words (number / 64) 0) (1 * 2 ^ (number % 64) % 18446744073709551616) ≡ 0 → IsTakenOut words words number
none_set words number clear =
    let word = slice_index_or words (number / 64) 0 in
    let shl : 1 * 2 ^ (number % 64) % 18446744073709551616 ≡ 2 ^ (number % 64) = one_shl (number % 64) 64 (omega arith) in
    let e : bit_at word (number % 64) * 2 ^ (number % 64) ≡ 0 = sym (and_pow word (number % 64)) ∙ ap (bit_and word) (sym shl) ∙ clear in
    let le : bit_at word (number % 64) ≤ bit_at word (number % 64) * 2 ^ (number % 64) = le-mul_of_pos_right (bit_at word (number % 64)) (pow_pos (number % 64)) in
    let none : bit_at word (number % 64) ≡ 0 = omega arith in
    none_taken words number (ap (λ b. b == 1) none)
