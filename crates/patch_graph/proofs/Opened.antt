-- Of which blocks a write can begin.
use Rattle.std.proofs.Common.{◌≡◌, ℕ, ◌∙◌, inl, inr, Bool, true, false, List, [], ◌∷◌, refl, sym, ap, Option, Some, None, IsTrue}
use Rattle.std.specs.Prelude.{◌≢◌, ◌<◌, ◌≤◌, ◌↔◌, IfSome}
use Rattle.std.proofs.lemmas.Bool.{both_ways, false_from_ne_true}
use Rattle.patch_model.specs.declared.limits.TheConstants.{MAX_CACHED}
use Rattle.patch_model.specs.declared.patches.Mark.{Mark}
use Rattle.patch_model.specs.declared.patches.Mark.TheVariants.{Memory, Flight, Durable}
use Rattle.patch_model.specs.Entry.{Entry, marks_flight, marks_durable}
use Rattle.patch_model.specs.Ready.{ready, ReadyIsOnly}
use Rattle.patch_links.specs.State.{Slots, Numbers}
use Rattle.patch_links.specs.Ready.{TellsReady, HasNoRing as HasNoChain, IsOpen as IsOpenOf, IsShut as IsShutOf, IsNextOpen as IsNextOpenOf}
use Rattle.patch_graph.specs.State.{Graph}
use Rattle.patch_graph.specs.Meaning.{IsGraphOf}
use Rattle.patch_graph.specs.Ready.{IsOpen, IsShut, IsNextOpen}
use Rattle.patch_graph.proofs.ReadySet.{any_is_ready}

pub next_is_within : (slots : Slots) (numbers : Numbers) (from : ℕ) (found : Option ℕ) → IsNextOpenOf slots numbers from found → IfSome found (λ block. (from ≤ block) × (block < MAX_CACHED))
next_is_within slots numbers from None is = tt
next_is_within slots numbers from (Some least) is = (is.0, is.1)

flies_live : (mark : Mark) → marks_flight mark ≡ true → marks_durable mark ≡ false
flies_live Memory flies = absurd (cc)
flies_live Flight flies = refl
flies_live Durable flies = absurd (cc)

none_or : {A : Type 0} (xs : List A) → (xs ≢ [] → ⊥) → xs ≡ []
none_or [] h = refl
none_or (x ∷ xs) h = absurd (h (λ e. cc))

module _ (only : ReadyIsOnly) (g : Graph) (all : List Entry) (r : IsGraphOf g all) (ring : HasNoChain g.slots g.numbers) where
  tells : (block : ℕ) (any : Bool) → TellsReady g.slots g.numbers block any → IsTrue any ↔ (ready all block ≢ [])
  tells block any t = any_is_ready only g all block t.set any r (t.is.largest ring) t.none t.some

  open_by : (block : ℕ) → IsOpenOf g.slots g.numbers block → IsOpen all block
  open_by block o = record {
    some = (tells block true o.ready).0 refl;
    still = λ e inside here. false_from_ne_true _ (λ flies.
        let k = r.found e inside (flies_live e.mark flies) in
        let looks = (r.classes k.0 k.1 k.3).looks e inside (sym k.4) in
        both_ways _ (o.still k.0 k.1 k.3 (sym looks.1 ∙ here)) (sym (ap marks_flight looks.0) ∙ flies));
  }

  shut_by : (block : ℕ) → IsShutOf g.slots g.numbers block → IsShut all block
  shut_by block (inl none) = inl (none_or (ready all block) (λ some. let t = (tells block false none).1 some in cc))
  shut_by block (inr (key, c, at, here, flies)) =
      let is = r.classes key c at in
      let e = is.some in
      let looks = is.looks e.0 e.1 e.2 in
      inr (e.0, e.1, looks.1 ∙ here, ap marks_flight looks.0 ∙ flies)

  pub next_is_open : (from : ℕ) (found : Option ℕ) → IsNextOpenOf g.slots g.numbers from found → IsNextOpen all from found
  next_is_open from None none = λ block above low. shut_by block (none block above low)
  next_is_open from (Some least) (above, low, is, none) = (above, low, open_by least is, λ block up under. shut_by block (none block up under))
