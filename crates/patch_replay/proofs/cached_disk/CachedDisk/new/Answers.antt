use Rattle.std.proofs.Common.{◌≡◌, ◌∙◌, List, [], ℕ, true, false, refl, sym, ap, subst}
use Rattle.patch_model.specs.Execution.{Execution}
use Rattle.patch_device.specs.Blocks.{zeros}
use Rattle.patch_device.specs.MemDevice.{contents_of}
use Rattle.patch_cache.specs.Flights.{AreFlightsOf}
use Rattle.patch_cache.specs.Meaning.{IsCacheOf}
use Rattle.patch_replay.proofs.cached_disk.CachedDisk.new.Goals as goal

-- a cache of these blocks to which nothing has happened
abbrev at_first : List (List ℕ) → Execution
at_first blocks = record { first = blocks; steps = [] }

-- so no write of it is under way
none_held : {A : Type 0} → (blocks : List (List ℕ)) → AreFlightsOf {A = A} (at_first blocks) []
none_held blocks = record { each = λ flight i. absurd i; all = λ alone block flies. absurd (let no : false ≡ true = flies in cc); once = λ i j f g a b same. absurd (cc) }

pub returns : goal.returns
returns c =
    let device = c.in_ok-device.ensures.zeros in
    let same : contents_of c.load.new.device ≡ contents_of c.in_ok-device.device = c.in-Ok.ensures.same c.in_ok-device.ensures.honest in
    let read : c.in-Ok.zeros.items ≡ zeros c.args.blocks = c.in-Ok.ensures.gives c.in_ok-device.ensures.honest ∙ device in
    record {
      runs = record {
        cache_is = subst (λ (blocks : List (List ℕ)). IsCacheOf c.in_ok-cache.cache (at_first blocks)) read c.in_ok-cache.ensures.answer;
        flights_are = subst (λ held. AreFlightsOf (at_first (zeros c.args.blocks)) held) (sym c.new-2.ensures) (none_held (zeros c.args.blocks));
      };
      groups = c.new-3.ensures;
      groups_are = c.order_is_kept.ensures.none _;
      disk = same ∙ device;
      images = record { count = refl; images = λ b known none. refl };
    }
