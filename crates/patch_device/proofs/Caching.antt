-- A write cache after an event more, and what a cut leaves of it.
use Rattle.std.proofs.Common.{◌≡◌, ℕ, List, [], ◌∷◌, ◌++◌, Some, None, length, take, drop, sym, ap, ◌∙◌, subst, arith, Bool}
use Rattle.std.specs.Prelude.{slice_set}
use Rattle.std.proofs.Math.Seq.{take-length, drop-length}
use Rattle.std.proofs.lemmas.List.{take-append-le, drop-append-le}
use Rattle.patch_device.specs.Device.{LandsOrNot, LeavesNoMore}
use Rattle.patch_device.specs.Writes.{one_longer}
use Rattle.patch_device.specs.Cuts.{Event, MayBeLeft, IsSyncedAt, cached_behind, written_behind, left_behind, with_landed, writes_among, cached_more, written_more, written_synced, left_now, lands_behind, no_more_behind, some_landed}
use Rattle.patch_device.proofs.Cutting.{among_both}

pub more_written : (first : List (List ℕ)) (es es' : List Event) (w : ℕ × List ℕ) → es' ≡ es ++ Some w ∷ [] → written_behind first es' ≡ slice_set (written_behind first es) w.0 w.1
more_written first es es' w more = rw more (written_more first es w)

pub more_lands : (first : List (List ℕ)) (es es' : List Event) (w : ℕ × List ℕ) → es' ≡ es ++ Some w ∷ []
    → LandsOrNot (left_behind first es (length es)) w.0 w.1 (left_behind first es' (length es'))
more_lands first es es' w more = rw more (lands_behind first es w)

pub more_synced : (first : List (List ℕ)) (es es' : List Event) → es' ≡ es ++ None ∷ [] → written_behind first es' ≡ written_behind first es
more_synced first es es' more = rw more (written_synced first es)

pub no_more_left : (first : List (List ℕ)) (es es' : List Event) → es' ≡ es ++ None ∷ [] → LeavesNoMore (left_behind first es (length es)) (left_behind first es' (length es'))
no_more_left first es es' more = rw more (no_more_behind first es)

-- where the last sync was
pub synced_write : (first : List (List ℕ)) (es es' : List Event) (synced : ℕ) (w : ℕ × List ℕ) → es' ≡ es ++ Some w ∷ [] → IsSyncedAt first es synced → IsSyncedAt first es' synced
synced_write first es es' synced w more last = rw more (record {
  within = let known = last.within in let long = one_longer es (Some w) in omega (arith, known, long);
  lasting = ap (written_behind first) (take-append-le synced es (Some w ∷ []) last.within) ∙ last.lasting ∙ sym (ap (λ s. s.lasting) (cached_more first es (Some w)));
  loose = ap writes_among (drop-append-le synced es (Some w ∷ []) last.within) ∙ among_both (drop synced es) (Some w ∷ []) ∙ ap (λ ws. ws ++ w ∷ []) last.loose
      ∙ sym (ap (λ s. s.loose) (cached_more first es (Some w)));
})

pub synced_sync : (first : List (List ℕ)) (es es' : List Event) (synced : ℕ) → es' ≡ es ++ None ∷ [] → synced ≡ length es' → IsSyncedAt first es' synced
synced_sync first es es' synced more all = rw (all, more) (record {
  within = omega arith;
  lasting = ap (written_behind first) (take-length (es ++ None ∷ [])) ∙ written_synced first es ∙ sym (ap (λ s. s.lasting) (cached_more first es None));
  loose = ap writes_among (drop-length (es ++ None ∷ [])) ∙ sym (ap (λ s. s.loose) (cached_more first es None));
})

-- what is made of the blocks by all writes up to the last sync, and those behind it that land, a cut may leave
pub cut_made : (first begun : List (List ℕ)) (es listed : List Event) (synced : ℕ) (lands : List Bool) (before loose : List Event) (at_sync made : List (List ℕ)) → IsSyncedAt first es synced
    → begun ≡ first → listed ≡ es → before ≡ take synced listed → loose ≡ drop synced listed → at_sync ≡ written_behind begun before → made ≡ with_landed at_sync (writes_among loose) lands
    → made ≡ with_landed (cached_behind first es).lasting (cached_behind first es).loose lands
cut_made first begun es listed synced lands before loose at_sync made last zero all front back replayed landed =
    landed
    ∙ ap (λ (b : List (List ℕ)). with_landed b (writes_among loose) lands)
    (replayed ∙ ap (λ (b : List (List ℕ)). written_behind b before) zero ∙ ap (written_behind first) (front ∙ ap (take synced) all) ∙ last.lasting)
    ∙ ap (λ (ws : List (ℕ × List ℕ)). with_landed (cached_behind first es).lasting ws lands) (ap writes_among (back ∙ ap (drop synced) all) ∙ last.loose)

pub cut_left : (first : List (List ℕ)) (es : List Event) (lands : List Bool) (made : List (List ℕ)) → made ≡ with_landed (cached_behind first es).lasting (cached_behind first es).loose lands
    → left_behind first es (length es) made
cut_left first es lands made is =
    subst (λ (now : List (List ℕ) → Type 0). now made) (sym (left_now first es))
    (subst (MayBeLeft (cached_behind first es)) (sym is) (some_landed (cached_behind first es).lasting (cached_behind first es).loose lands))
