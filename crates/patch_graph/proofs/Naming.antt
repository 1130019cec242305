-- Lists that cover what a patch names.
use Rattle.std.proofs.Common.{◌≡◌, ℕ, zero, suc, ◌+◌, ◌-◌, ◌<◌, ◌≤◌, ◌⊎◌, ◌∙◌, inl, inr, List, [], ◌∷◌, ◌++◌, length, refl, sym, ap, subst, arith, take, get_or, min, Some, None}
use Rattle.std.specs.Prelude.{nat_lt}
use Rattle.std.specs.List.{filter, range_with_len}
use Rattle.std.proofs.lemmas.Bool.{cases_lt, cases_eq, lt-ltb, ltb-true}
use Rattle.std.proofs.lemmas.List.{take_more}
use Rattle.patch_model.specs.Member.{In, In-filter, filter-In}
use Rattle.patch_model.specs.Runs.{numbers_of, numbers_in}
use Rattle.patch_model.specs.declared.runs.Run.{Run}
use Rattle.patch_links.specs.declared.nodes.Reach.{Reach}
use Rattle.patch_links.specs.State.{Slots, Numbers, no_reach, IsInReach, find}
use Rattle.patch_graph.specs.Naming.{reach_at, IsCovered, IsNamedBelow, HasTaken, HasListed, HasWalked}
use Rattle.patch_graph.proofs.ReadySet.{In-left, In-right, In-parts}

range-In : (a n x : ℕ) → In (range_with_len a n) x → (a ≤ x) × (x < a + n)
range-In a zero x i = absurd i
range-In a (suc n) x (inl e) = (omega (arith, e), omega (arith, e))
range-In a (suc n) x (inr i) = let r = range-In (a + 1) n x i in (omega (arith, r.0), omega (arith, r.1))

In-range : (a n x : ℕ) → a ≤ x → x < a + n → In (range_with_len a n) x
In-range a zero x low high = absurd (omega (arith, low, high))
In-range a (suc n) x low high = elim (cases_eq a x) [
  | inl e ↦ inl e
  | inr d ↦ elim (cases_lt a x) [
    | inl l ↦ inr (In-range (a + 1) n x (omega (arith, l)) (omega (arith, high)))
    | inr g ↦ let e : a ≡ x = omega (arith, low, g) in inl e
  ]
]

-- the numbers of a run are those from its first up to its last
pub numbers-In : (r : Run) (x : ℕ) → In (numbers_of r) x → (min r.first r.last ≤ x) × (x ≤ r.last)
numbers-In r x i = elim (In-parts (range_with_len r.first (r.last - r.first)) (r.last ∷ []) x i) [
  | inl j ↦ let at = range-In r.first (r.last - r.first) x j in (omega (arith, at.0), omega (arith, at.0, at.1))
  | inr j ↦ elim j [ inl e ↦ (omega (arith, e), omega (arith, e)) | inr none ↦ absurd none ]
]

pub In-numbers : (r : Run) (x : ℕ) → min r.first r.last ≤ x → x ≤ r.last → In (numbers_of r) x
In-numbers r x first last = elim (cases_lt x r.last) [
  | inl l ↦ In-left (range_with_len r.first (r.last - r.first)) (r.last ∷ []) x (In-range r.first (r.last - r.first) x (omega (arith, first, l)) (omega (arith, first, l)))
  | inr g ↦ let e : r.last ≡ x = omega (arith, g, last) in In-right (range_with_len r.first (r.last - r.first)) (r.last ∷ []) x (inl e)
]

-- the numbers of one of the runs are among those of all
pub In-numbers_in : (runs : List Run) (i : ℕ) (d : Run) (x : ℕ) → i < length runs → In (numbers_of (get_or runs i d)) x → In (numbers_in runs) x
In-numbers_in [] i d x low at = absurd (omega (arith, low))
In-numbers_in (r ∷ runs) zero d x low at = In-left (numbers_of r) (numbers_in runs) x at
In-numbers_in (r ∷ runs) (suc i) d x low at = In-right (numbers_of r) (numbers_in runs) x (In-numbers_in runs i d x (omega (arith, low)) at)

-- and those of some with one more are theirs and its own
pub numbers_in-push : (runs : List Run) (r : Run) (x : ℕ) → In (numbers_in (runs ++ r ∷ [])) x → In (numbers_in runs) x ⊎ In (numbers_of r) x
numbers_in-push [] r x i = elim (In-parts (numbers_of r) [] x i) [ inl j ↦ inr j | inr j ↦ absurd j ]
numbers_in-push (y ∷ runs) r x i = elim (In-parts (numbers_of y) (numbers_in (runs ++ r ∷ [])) x i) [
  | inl j ↦ inl (In-left (numbers_of y) (numbers_in runs) x j)
  | inr j ↦ elim (numbers_in-push runs r x j) [ inl k ↦ inl (In-right (numbers_of y) (numbers_in runs) x k) | inr k ↦ inr k ]
]

pub push-numbers_in : (runs : List Run) (r : Run) (x : ℕ) → In (numbers_in runs) x ⊎ In (numbers_of r) x → In (numbers_in (runs ++ r ∷ [])) x
push-numbers_in [] r x (inl i) = absurd i
push-numbers_in [] r x (inr i) = In-left (numbers_of r) [] x i
push-numbers_in (y ∷ runs) r x (inl i) = elim (In-parts (numbers_of y) (numbers_in runs) x i) [
  | inl j ↦ In-left (numbers_of y) (numbers_in (runs ++ r ∷ [])) x j
  | inr j ↦ In-right (numbers_of y) (numbers_in (runs ++ r ∷ [])) x (push-numbers_in runs r x (inl j))
]
push-numbers_in (y ∷ runs) r x (inr i) = In-right (numbers_of y) (numbers_in (runs ++ r ∷ [])) x (push-numbers_in runs r x (inr i))

-- the numbers of a run that were made
pub reach-named : (made to : ℕ) (r : Run) (n : ℕ) → to ≡ min (r.last + 1) made → min r.first r.last ≤ n → n < to → IsNamedBelow made (numbers_of r) n
reach-named made to r n is low high = (In-numbers r n low (omega (arith, is, high)), omega (arith, is, high))

-- of two reaches either
pub either-reach : (P : ℕ → Type 0) (a b c : Reach) → (c ≡ a) ⊎ (c ≡ b) → ((n : ℕ) → IsInReach a n → P n) → ((n : ℕ) → IsInReach b n → P n) → (n : ℕ) → IsInReach c n → P n
either-reach P a b c (inl e) f h n i = f n (subst (λ z. IsInReach z n) e i)
either-reach P a b c (inr e) f h n i = h n (subst (λ z. IsInReach z n) e i)

module _ (slots : Slots) (numbers : Numbers) where
  -- what a list covers, one with more numbers covers
  pub covered-more : (old new : List ℕ) (n : ℕ) → ((m : ℕ) → In old m → In new m) → IsCovered slots numbers old n → IsCovered slots numbers new n
  covered-more old new n more (inl none) = inl none
  covered-more old new n more (inr (inl i)) = inr (inl (more n i))
  covered-more old new n more (inr (inr w)) = inr (inr (w.0, more w.0 w.1, w.2))

  -- of m number there is nothing to take
  pub taken-none : (kind : ℕ → Type 0) (list : List ℕ) → ((n : ℕ) → kind n → ⊥) → HasTaken slots numbers kind list list
  taken-none kind list none = record { kept = λ n i. i; only = λ n i. inl i; all = λ n k. absurd (none n k) }

  -- numbers of two kinds, taken one after the other
  pub taken-both : (a b both : ℕ → Type 0) (old mid new : List ℕ) → HasTaken slots numbers a old mid → HasTaken slots numbers b mid new
      → ((n : ℕ) → both n → a n ⊎ b n) → ((n : ℕ) → a n ⊎ b n → both n) → HasTaken slots numbers both old new
  taken-both a b both old mid new first second parts whole = record {
    kept = λ n i. second.kept n (first.kept n i);
    only = λ n i. elim (second.only n i) [
      | inl j ↦ elim (first.only n j) [ inl k ↦ inl k | inr k ↦ inr (whole n (inl k)) ]
      | inr k ↦ inr (whole n (inr k))
    ];
    all = λ n k. elim (parts n k) [
      | inl p ↦ covered-more mid new n second.kept (first.all n p)
      | inr p ↦ second.all n p
    ];
  }

  -- all numbers of a list that were made
  pub taken-listed : (made : ℕ) (named old new : List ℕ) → new ≡ old ++ filter (λ n. nat_lt n made) named → HasTaken slots numbers (IsNamedBelow made named) old new
  taken-listed made named old new is =
      let low = filter (λ n. nat_lt n made) named in
      record {
        kept = λ n i. subst (λ l. In l n) (sym is) (In-left old low n i);
        only = λ n i. elim (In-parts old low n (subst (λ l. In l n) is i)) [
          | inl j ↦ inl j
          | inr j ↦ let k = filter-In (λ n. nat_lt n made) named n j in inr (k.0, ltb-true n made k.1)
        ];
        all = λ n k. inr (inl (subst (λ l. In l n) (sym is) (In-right old low n (In-filter (λ n. nat_lt n made) named n k.0 (lt-ltb n made k.1)))));
      }

  -- a live number is listed, with what its class reaches
  pub listed : (m key : ℕ) (reach : Reach) (old new : List ℕ) → find numbers m ≡ Some key → new ≡ old ++ m ∷ [] → ((n : ℕ) → IsInReach reach n → IsInReach (reach_at slots key) n)
      → HasListed slots numbers m reach old new
  listed m key reach old new at is within =
      let here : In new m = subst (λ l. In l m) (sym is) (In-right old (m ∷ []) m (inl refl)) in
      record {
        taken = record {
          kept = λ n i. subst (λ l. In l n) (sym is) (In-left old (m ∷ []) n i);
          only = λ n i. elim (In-parts old (m ∷ []) n (subst (λ l. In l n) is i)) [
            | inl j ↦ inl j
            | inr j ↦ elim j [ inl e ↦ inr (sym e) | inr none ↦ absurd none ]
          ];
          all = λ n e. inr (inl (subst (λ m. In new m) (sym e) here));
        };
        reached = λ n i. inr (inr (m, here, record { key = key; leads = at; inside = within n i }));
      }

  -- one that isn't live is left out
  pub left_out : (m : ℕ) (list : List ℕ) → find numbers m ≡ None → HasListed slots numbers m no_reach list list
  left_out m list none = record {
    taken = record { kept = λ n i. i; only = λ n i. inl i; all = λ n e. inl (ap (find numbers) e ∙ none) };
    reached = λ n i. let high = i.1 in absurd (omega (arith, high));
  }

  module _ (kind : ℕ → Type 0) where
    pub walk-begun : (next : ℕ) (list : List ℕ) → ((n : ℕ) → kind n → n < next) → HasWalked slots numbers kind next no_reach list list
    walk-begun next list below = record {
      taken = taken-none (λ n. kind n × (next ≤ n)) list (λ n k. let low = below n k.0 in let high = k.1 in absurd (omega (arith, low, high)));
      skipped = λ n i. let high = i.1 in absurd (omega (arith, high));
    }

    -- the reach is jumped over
    pub walk-jumped : (next m : ℕ) (skip : Reach) (old new : List ℕ) → m + 1 ≡ next → skip.from ≤ m → m < skip.to
        → HasWalked slots numbers kind next skip old new → HasWalked slots numbers kind skip.from no_reach old new
    walk-jumped next m skip old new is low high w = record {
      taken = record {
        kept = w.taken.kept;
        only = λ n i. elim (w.taken.only n i) [
          | inl j ↦ inl j
          | inr k ↦ let above = k.1 in inr (k.0, omega (arith, is, low, above))
        ];
        all = λ n k. elim (cases_lt n next) [
          | inl below ↦ w.skipped n (k.1, omega (arith, is, high, below))
          | inr above ↦ w.taken.all n (k.0, above)
        ];
      };
      skipped = λ n i. let none = i.1 in absurd (omega (arith, none));
    }

    -- one number more is looked at
    pub walk-listed : (next m : ℕ) (skip reach now : Reach) (old mid new : List ℕ) → m + 1 ≡ next → kind m → (now ≡ skip) ⊎ (now ≡ reach)
        → HasWalked slots numbers kind next skip old mid → HasListed slots numbers m reach mid new → HasWalked slots numbers kind m now old new
    walk-listed next m skip reach now old mid new is of which w h = record {
      taken = record {
        kept = λ n i. h.taken.kept n (w.taken.kept n i);
        only = λ n i. elim (h.taken.only n i) [
          | inl j ↦ elim (w.taken.only n j) [ inl k ↦ inl k | inr k ↦ let above = k.1 in inr (k.0, omega (arith, is, above)) ]
          | inr e ↦ inr (subst kind (sym e) of, omega (arith, e))
        ];
        all = λ n k. elim (cases_eq n m) [
          | inl e ↦ h.taken.all n e
          | inr other ↦ let above = k.1 in covered-more mid new n h.taken.kept (w.taken.all n (k.0, omega (arith, is, above, other)))
        ];
      };
      skipped = either-reach (IsCovered slots numbers new) skip reach now which (λ n i. covered-more mid new n h.taken.kept (w.skipped n i)) h.reached;
    }

    -- the numbers that are left aren't live
    pub walk-ended : (next : ℕ) (skip : Reach) (old new : List ℕ) → HasWalked slots numbers kind next skip old new
        → ((n : ℕ) → kind n → n < next → find numbers n ≡ None) → HasTaken slots numbers kind old new
    walk-ended next skip old new w gone = record {
      kept = w.taken.kept;
      only = λ n i. elim (w.taken.only n i) [ inl j ↦ inl j | inr k ↦ inr k.0 ];
      all = λ n k. elim (cases_lt n next) [
        | inl below ↦ inl (gone n k below)
        | inr above ↦ w.taken.all n (k, above)
      ];
    }

  -- one run more
  pub taken-run : (made : ℕ) (runs : List Run) (i : ℕ) (r d : Run) (old mid new : List ℕ) → i < length runs → get_or runs i d ≡ r
      → HasTaken slots numbers (IsNamedBelow made (numbers_in (take i runs))) old mid → HasTaken slots numbers (IsNamedBelow made (numbers_of r)) mid new
      → HasTaken slots numbers (IsNamedBelow made (numbers_in (take (i + 1) runs))) old new
  taken-run made runs i r d old mid new low is first second =
      let more : take (i + 1) runs ≡ take i runs ++ r ∷ [] = take_more runs i d low ∙ ap (λ x. take i runs ++ x ∷ []) is in
      taken-both (IsNamedBelow made (numbers_in (take i runs))) (IsNamedBelow made (numbers_of r)) (IsNamedBelow made (numbers_in (take (i + 1) runs))) old mid new first second
      (λ n k. elim (numbers_in-push (take i runs) r n (subst (λ rs. In (numbers_in rs) n) more k.0)) [ inl j ↦ inl (j, k.1) | inr j ↦ inr (j, k.1) ])
      (λ n k. elim k [
        | inl j ↦ (subst (λ rs. In (numbers_in rs) n) (sym more) (push-numbers_in (take i runs) r n (inl j.0)), j.1)
        | inr j ↦ (subst (λ rs. In (numbers_in rs) n) (sym more) (push-numbers_in (take i runs) r n (inr j.0)), j.1)
      ])
