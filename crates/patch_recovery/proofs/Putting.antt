-- The changes of a put are well made.
use Rattle.std.proofs.Common.{◌≡◌, ℕ, zero, suc, ◌+◌, ◌-◌, ◌%◌, ◌<◌, ◌≤◌, ◌^◌, ◌∙◌, inl, inr, Bool, true, false, cond}
use Rattle.std.proofs.Common.{List, [], ◌∷◌, ◌++◌, length, take, drop, get_or, Some, Ok, refl, sym, ap, arith, subst}
use Rattle.std.proofs.Common.{append-nil}
use Rattle.std.specs.Prelude.{◌==◌, ◌&&◌, nat_le, nat_lt, IfSome, IsTrue, slice_index}
use Rattle.std.specs.List.{range_with_len}
use Rattle.std.specs.Str.{bytes_eq}
use Rattle.std.proofs.lemmas.Bool.{cases_Bool, cases_lt, and_from}
use Rattle.std.proofs.lemmas.Bool.Decides.{nat_tests}
use Rattle.std.proofs.lemmas.List.{same_lists, length-map, get_or_default, get_or-drop, get_or-take, length-drop}
use Rattle.std.proofs.lemmas.List.{length-take}
use Rattle.std.proofs.lemmas.List.FromFn.{get_or-map-range_with_len, length-range_with_len}
use Rattle.patch_model.specs.Entry.{is_among}
use Rattle.patch_frame.specs.declared.geometries.Format.{Format}
use Rattle.patch_frame.specs.declared.geometries.Format.TheVariants.{One, Two}
use Rattle.patch_frame.specs.Geometry.{IsGeometry, IsFormat, slot_count, largest_pointer, longest_frame, value_limit}
use Rattle.patch_frame.specs.Frame.{Content, Fits, frame_at, spelling, length_of}
use Rattle.patch_recovery.specs.Change.{Change, Data, Point, Fill, Made}
use Rattle.patch_recovery.specs.Ledger.{Ledger, after_all, bytes_at, frame_named, writes_at}
use Rattle.patch_recovery.specs.Orders.{IsWellMade, AreWellMade, is_reset, is_clear, is_widen}
use Rattle.patch_recovery.specs.Naming.{newest}
use Rattle.patch_recovery.specs.Said.{value_read, last_said}
use Rattle.patch_recovery.specs.Putting.{pieces_within, made_in_order, Put, fields_put, bytes_put, pointer_put}
use Rattle.patch_recovery.specs.Putting.{IsRightPut, IsPutWell}
use Rattle.patch_recovery.proofs.Held.{right_of}
use Rattle.patch_recovery.specs.Wider.{limits_of, format_kept}
use Rattle.patch_recovery.proofs.Widening.{shape_all}
use Rattle.patch_recovery.proofs.Naming.{names_suffice}

-- what frames are read from and how long they are
pub record Frames : Type 0 where
  pub read : (limit : ℕ) (c : Content) (rest : List ℕ) → limit < 2 ^ 32 → Fits limit c
      → frame_at limit (spelling c ++ rest) ≡ Ok c
  pub long : (c : Content) → length (spelling c) ≡ length_of c
  pub fit : (f : Format) (c : Content) → IsFormat f → Fits (value_limit f) c → (17 ≤ length_of c)
      × (length_of c ≤ longest_frame f) × (length_of c ≤ largest_pointer f)

-- what bytes that are made leave of a ledger
pub record SameBut (k l : Ledger) : Type 0 where
  pub geometry : k.geometry ≡ l.geometry
  pub pointer : (e : ℕ) → k.pointer e ≡ l.pointer e
  pub slot : (s : ℕ) → k.slot s ≡ l.slot s

nothing_left : (bs : List ℕ) → length bs ≡ 0 → bs ≡ []
nothing_left [] h = refl
nothing_left (b ∷ bs) h = absurd (omega arith)

one_off : (e : ℕ) (low high : Bool) (x y : ℕ) → low ≡ false → cond (e == e && low && high) x y ≡ y
one_off e low high x y h = let own : (e == e) ≡ true = grind (arith, nat_tests) in rw (own, h) refl

one_on : (e : ℕ) (x y : ℕ) (low high : Bool) → low ≡ true → high ≡ true → cond (e == e && low && high) x y ≡ x
one_on e x y low high h k = let own : (e == e) ≡ true = grind (arith, nat_tests) in rw (own, h, k) refl

-- a pointer has 32 bits
pub pointer_small : (f : Format) → IsFormat f → largest_pointer f < 2 ^ 32
pointer_small One is = omega arith
pointer_small (Two x) is = let high = is.1 in omega arith

module _ (first : Ledger) (names : List ℕ) (e : ℕ) where
  no_pieces : (most offset : ℕ) (ms : List Made) → AreWellMade first ms
      → AreWellMade first (made_in_order names (pieces_within most e offset []) ms)
  no_pieces zero offset ms well = well
  no_pieces (suc most) offset ms well = well

  -- each piece is right and well made
  pieces_well : (most offset : ℕ) (bytes : List ℕ) (ms : List Made) → AreWellMade first ms
      → e < (after_all first ms).geometry.extents
      → ((after_all first ms).pointer e).offset ≤ offset
      → offset + length bytes ≤ largest_pointer (after_all first ms).geometry.format
      → IfSome (newest (is_reset e) ms) (λ n. IsTrue (is_among names n))
      → AreWellMade first (made_in_order names (pieces_within most e offset bytes) ms)
  pieces_well zero offset bytes ms well known past inside named = well
  pieces_well (suc most) offset [] ms well known past inside named = well
  pieces_well (suc most) offset (byte ∷ bytes) ms well known past inside named =
      let n : ℕ = 4096 - offset % 4096 in
      let small : offset % 4096 < 4096 = omega arith in
      let cut = length-take (4096 - offset % 4096) (byte ∷ bytes) in
      let rest = length-drop (4096 - offset % 4096) (byte ∷ bytes) in
      let piece : Made = record {
        change = Data e offset (take (4096 - offset % 4096) (byte ∷ bytes));
        after = names;
      } in
      let one : IsWellMade first piece ms = names_suffice first piece ms well (record {
        known = known;
        some = omega arith;
        one_block = omega arith;
        in_extent = omega arith;
        past_pointer = past;
      }) named in
      elim (cases_lt (4096 - offset % 4096) (length (byte ∷ bytes))) [
        | inl less ↦ pieces_well most (offset + (4096 - offset % 4096)) (drop (4096 - offset % 4096) (byte ∷ bytes))
            (piece ∷ ms) (one, well) known (omega arith) (omega arith) named
        | inr all ↦
            let none : drop (4096 - offset % 4096) (byte ∷ bytes) ≡ [] =
            nothing_left (drop (4096 - offset % 4096) (byte ∷ bytes)) (omega arith) in
            subst (λ bs. AreWellMade first (made_in_order names
            (pieces_within most e (offset + (4096 - offset % 4096)) bs) (piece ∷ ms))) (sym none)
            (no_pieces most (offset + (4096 - offset % 4096)) (piece ∷ ms) (one, well))
      ]

  -- the pieces change no pointer, no slot and no geometry
  pub pieces_same : (most offset : ℕ) (bytes : List ℕ) (ms : List Made)
      → SameBut (after_all first (made_in_order names (pieces_within most e offset bytes) ms)) (after_all first ms)
  pieces_same zero offset bytes ms = record { geometry = refl; pointer = λ x. refl; slot = λ s. refl }
  pieces_same (suc most) offset [] ms = record { geometry = refl; pointer = λ x. refl; slot = λ s. refl }
  pieces_same (suc most) offset (byte ∷ bytes) ms =
      let rest = pieces_same most (offset + (4096 - offset % 4096)) (drop (4096 - offset % 4096) (byte ∷ bytes))
      (record {
        change = Data e offset (take (4096 - offset % 4096) (byte ∷ bytes));
        after = names;
      } ∷ ms) in
      record { geometry = rest.geometry; pointer = rest.pointer; slot = rest.slot }

  -- a byte before all pieces stays
  byte_before : (most offset : ℕ) (bytes : List ℕ) (ms : List Made) (place : ℕ) → place < offset
      → (after_all first (made_in_order names (pieces_within most e offset bytes) ms)).byte e place
      ≡ (after_all first ms).byte e place
  byte_before zero offset bytes ms place less = refl
  byte_before (suc most) offset [] ms place less = refl
  byte_before (suc most) offset (byte ∷ bytes) ms place less =
      let off : nat_le offset place ≡ false = grind (arith, nat_tests) in
      byte_before most (offset + (4096 - offset % 4096)) (drop (4096 - offset % 4096) (byte ∷ bytes)) (record {
        change = Data e offset (take (4096 - offset % 4096) (byte ∷ bytes));
        after = names;
      } ∷ ms) place (omega arith)
      ∙ one_off e (nat_le offset place) (nat_lt place (offset + length (take (4096 - offset % 4096) (byte ∷ bytes))))
      (slice_index (take (4096 - offset % 4096) (byte ∷ bytes)) (place - offset))
      ((after_all first ms).byte e place) off

  byte_in : (most offset : ℕ) (bytes : List ℕ) (ms : List Made) (place : ℕ) → length bytes ≤ most → offset ≤ place
      → place < offset + length bytes
      → (after_all first (made_in_order names (pieces_within most e offset bytes) ms)).byte e place
      ≡ get_or bytes (place - offset) 0
  byte_in zero offset bytes ms place fuel from to = absurd (omega arith)
  byte_in (suc most) offset [] ms place fuel from to = absurd (omega arith)
  byte_in (suc most) offset (byte ∷ bytes) ms place fuel from to =
      let small : offset % 4096 < 4096 = omega arith in
      let cut = length-take (4096 - offset % 4096) (byte ∷ bytes) in
      let rest = length-drop (4096 - offset % 4096) (byte ∷ bytes) in
      elim (cases_lt place (offset + (4096 - offset % 4096))) [
        | inl here ↦
            let low : nat_le offset place ≡ true = grind (arith, nat_tests) in
            let within : place < offset + length (take (4096 - offset % 4096) (byte ∷ bytes)) = omega arith in
            let high : nat_lt place (offset + length (take (4096 - offset % 4096) (byte ∷ bytes))) ≡ true =
            grind (arith, nat_tests) in
            byte_before most (offset + (4096 - offset % 4096)) (drop (4096 - offset % 4096) (byte ∷ bytes)) (record {
              change = Data e offset (take (4096 - offset % 4096) (byte ∷ bytes));
              after = names;
            } ∷ ms) place here
            ∙ one_on e (slice_index (take (4096 - offset % 4096) (byte ∷ bytes)) (place - offset))
            ((after_all first ms).byte e place) (nat_le offset place)
            (nat_lt place (offset + length (take (4096 - offset % 4096) (byte ∷ bytes)))) low high
            ∙ get_or-take (4096 - offset % 4096) (byte ∷ bytes) (place - offset) 0 (omega arith)
        | inr behind ↦
            byte_in most (offset + (4096 - offset % 4096)) (drop (4096 - offset % 4096) (byte ∷ bytes)) (record {
              change = Data e offset (take (4096 - offset % 4096) (byte ∷ bytes));
              after = names;
            } ∷ ms) place (omega arith) behind (omega arith)
            ∙ get_or-drop (4096 - offset % 4096) (byte ∷ bytes) (place - (offset + (4096 - offset % 4096))) 0
            ∙ ap (λ k. get_or (byte ∷ bytes) k 0)
            (let same : 4096 - offset % 4096 + (place - (offset + (4096 - offset % 4096))) ≡ place - offset =
            omega arith in same)
      ]

-- what is made later only raises the newest number
record IsNewestFrom (kind : Change → Bool) (ms : List Made) (low : ℕ) : Type 0 where
  pub number : ℕ
  pub is : newest kind ms ≡ Some number
  pub from : low ≤ number
  pub to : number < length ms

newest_later : (kind : Change → Bool) (names : List ℕ) (cs : List Change) (ms : List Made) (low : ℕ) → low ≤ length ms
    → IsNewestFrom kind ms low → IsNewestFrom kind (made_in_order names cs ms) low
newest_later kind names [] ms low le n = n
newest_later kind names (c ∷ cs) ms low le n = newest_later kind names cs
    (record { change = c; after = names } ∷ ms) low (omega arith) (elim (cases_Bool (kind c)) [
      | inl u ↦ record { number = length ms; is = rw u refl; from = le; to = omega arith }
      | inr u ↦ let below = n.to in record { number = n.number; is = rw u (n.is); from = n.from; to = omega arith }
    ])

newest_piece : (names : List ℕ) (e most offset : ℕ) (bytes : List ℕ) (ms : List Made) (place low : ℕ) → low ≤ length ms
    → length bytes ≤ most → offset ≤ place → place < offset + length bytes
    → IsNewestFrom (writes_at e place) (made_in_order names (pieces_within most e offset bytes) ms) low
newest_piece names e zero offset bytes ms place low le fuel from to = absurd (omega arith)
newest_piece names e (suc most) offset [] ms place low le fuel from to = absurd (omega arith)
newest_piece names e (suc most) offset (byte ∷ bytes) ms place low le fuel from to =
    let small : offset % 4096 < 4096 = omega arith in
    let cut = length-take (4096 - offset % 4096) (byte ∷ bytes) in
    let rest = length-drop (4096 - offset % 4096) (byte ∷ bytes) in
    elim (cases_lt place (offset + (4096 - offset % 4096))) [
      | inl here ↦
          let own : (e == e) ≡ true = grind (arith, nat_tests) in
          let a : nat_le offset place ≡ true = grind (arith, nat_tests) in
          let within : place < offset + length (take (4096 - offset % 4096) (byte ∷ bytes)) = omega arith in
          let b : nat_lt place (offset + length (take (4096 - offset % 4096) (byte ∷ bytes))) ≡ true =
          grind (arith, nat_tests) in
          let covered : (e == e && nat_le offset place
          && nat_lt place (offset + length (take (4096 - offset % 4096) (byte ∷ bytes)))) ≡ true =
          and_from _ _ (and_from _ _ own a) b in
          newest_later (writes_at e place) names (pieces_within most e (offset + (4096 - offset % 4096))
          (drop (4096 - offset % 4096) (byte ∷ bytes))) (record {
            change = Data e offset (take (4096 - offset % 4096) (byte ∷ bytes));
            after = names;
          } ∷ ms) low (omega arith)
          (record { number = length ms; is = rw covered refl; from = le; to = omega arith })
      | inr behind ↦ newest_piece names e most (offset + (4096 - offset % 4096))
          (drop (4096 - offset % 4096) (byte ∷ bytes)) (record {
            change = Data e offset (take (4096 - offset % 4096) (byte ∷ bytes));
            after = names;
          } ∷ ms) place low (omega arith) (omega arith) behind (omega arith)
    ]

-- pieces are neither resets, nor pointers, nor upgrades, nor do they clear a slot
pub newest_other : (kind : Change → Bool) → ((e offset : ℕ) (bytes : List ℕ) → kind (Data e offset bytes) ≡ false)
    → (names : List ℕ) (e most offset : ℕ) (bytes : List ℕ) (ms : List Made)
    → newest kind (made_in_order names (pieces_within most e offset bytes) ms) ≡ newest kind ms
newest_other kind none names e zero offset bytes ms = refl
newest_other kind none names e (suc most) offset [] ms = refl
newest_other kind none names e (suc most) offset (byte ∷ bytes) ms =
    newest_other kind none names e most (offset + (4096 - offset % 4096)) (drop (4096 - offset % 4096) (byte ∷ bytes))
    (record {
      change = Data e offset (take (4096 - offset % 4096) (byte ∷ bytes));
      after = names;
    } ∷ ms)
    ∙ rw (none e offset (take (4096 - offset % 4096) (byte ∷ bytes))) refl

-- pieces say nothing of a key
pub said_before : (names : List ℕ) (first : Ledger) (e most offset : ℕ) (bytes : List ℕ) (ms : List Made) (key : List ℕ)
    → last_said (λ n. true) first (made_in_order names (pieces_within most e offset bytes) ms) key
    ≡ last_said (λ n. true) first ms key
said_before names first e zero offset bytes ms key = refl
said_before names first e (suc most) offset [] ms key = refl
said_before names first e (suc most) offset (byte ∷ bytes) ms key =
    said_before names first e most (offset + (4096 - offset % 4096)) (drop (4096 - offset % 4096) (byte ∷ bytes))
    (record {
      change = Data e offset (take (4096 - offset % 4096) (byte ∷ bytes));
      after = names;
    } ∷ ms) key

-- the length of a value has 32 bits
pub limit_small : (f : Format) → IsFormat f → value_limit f < 2 ^ 32
limit_small One is = omega arith
limit_small (Two x) is = let high = is.1 in omega arith

-- so the changes of a put are well made
pub put_well : Frames → (first : Ledger) (earlier : List Made) (put : Put) → IsGeometry first.geometry
    → AreWellMade first earlier → IsRightPut first earlier put → IsPutWell first earlier put
put_well frames first earlier put valid well r =
    let l = after_all first earlier in
    let o : ℕ = ((after_all first earlier).pointer put.extent).offset in
    let bytes : List ℕ = spelling put.content in
    let long : length (spelling put.content) ≡ length_of put.content = frames.long put.content in
    let format : IsFormat (after_all first earlier).geometry.format =
    format_kept first.geometry (after_all first earlier).geometry valid.format
    (shape_all first earlier (right_of first earlier well)) in
    let sizes = frames.fit (after_all first earlier).geometry.format put.content format r.content in
    let limits = limits_of first.geometry (after_all first earlier).geometry
    (shape_all first earlier (right_of first earlier well)) in
    let few = valid.few_extents in
    let extents = limits.extents in
    let largest_small : largest_pointer (after_all first earlier).geometry.format < 2 ^ 32 =
    pointer_small (after_all first earlier).geometry.format format in
    let room = r.room in
    let known = r.known in
    let same = pieces_same first put.bytes_names put.extent (length (spelling put.content))
    ((after_all first earlier).pointer put.extent).offset (spelling put.content) earlier in
    let data_well : AreWellMade first (bytes_put first earlier put) =
    pieces_well first put.bytes_names put.extent (length (spelling put.content))
    ((after_all first earlier).pointer put.extent).offset (spelling put.content) earlier well r.known (omega arith)
    (omega arith) r.bytes_named in
    let point : Made = record {
      change = Point put.extent ((after_all first earlier).pointer put.extent).generation
          (((after_all first earlier).pointer put.extent).offset + length_of put.content);
      after = put.pointer_names;
    } in
    let pointer_same = same.pointer put.extent in
    let offset_same : ((after_all first (bytes_put first earlier put)).pointer put.extent).offset
    ≡ ((after_all first earlier).pointer put.extent).offset = ap (λ p. p.offset) pointer_same in
    let geometry_same = same.geometry in
    let extents_same : (after_all first (bytes_put first earlier put)).geometry.extents
    ≡ (after_all first earlier).geometry.extents = ap (λ g. g.extents) geometry_same in
    let largest_same : largest_pointer (after_all first (bytes_put first earlier put)).geometry.format
    ≡ largest_pointer (after_all first earlier).geometry.format =
    ap (λ g. largest_pointer g.format) geometry_same in
    let some = sizes.0 in
    let point_well : IsWellMade first point (bytes_put first earlier put) =
    names_suffice first point (bytes_put first earlier put) data_well
    (record {
      known = omega arith;
      few = r.generation;
      in_extent = omega arith;
      moved = inl (record { generation_same = ap (λ p. p.generation) (sym pointer_same); further = omega arith });
    })
    (λ nothing. absurd (omega arith)) in
    let own : (put.extent == put.extent) ≡ true = grind (arith, nat_tests) in
    let byte : (place : ℕ) → ((after_all first earlier).pointer put.extent).offset ≤ place
    → place < ((after_all first earlier).pointer put.extent).offset + length_of put.content
    → (after_all first (bytes_put first earlier put)).byte put.extent place
    ≡ get_or (spelling put.content) (place - ((after_all first earlier).pointer put.extent).offset) 0 =
    λ place from to.
    byte_in first put.bytes_names put.extent (length (spelling put.content))
    ((after_all first earlier).pointer put.extent).offset (spelling put.content) earlier place (omega arith) from
    (omega arith) in
    let there : bytes_at (after_all first (bytes_put first earlier put)) put.extent
    ((after_all first earlier).pointer put.extent).offset (length_of put.content) ≡ spelling put.content =
    same_lists _ _ (length-map (range_with_len ((after_all first earlier).pointer put.extent).offset
    (length_of put.content)) (λ place. (after_all first (bytes_put first earlier put)).byte put.extent place)
    ∙ length-range_with_len ((after_all first earlier).pointer put.extent).offset (length_of put.content)
    ∙ sym long)
    (λ k d h.
    let within : k < length_of put.content = omega (
      arith,
      length-map
          (range_with_len ((after_all first earlier).pointer put.extent).offset (length_of put.content))
          (λ place. (after_all first (bytes_put first earlier put)).byte put.extent place),
      length-range_with_len
          ((after_all first earlier).pointer put.extent).offset (length_of put.content),
    ) in
    get_or-map-range_with_len (λ place. (after_all first (bytes_put first earlier put)).byte put.extent place)
    ((after_all first earlier).pointer put.extent).offset (length_of put.content) k
    (((after_all first earlier).pointer put.extent).offset + k) d within (omega arith)
    ∙ byte (((after_all first earlier).pointer put.extent).offset + k) (omega arith) (omega arith)
    ∙ ap (λ n. get_or (spelling put.content) n 0) (let at :
    ((after_all first earlier).pointer put.extent).offset + k
    - ((after_all first earlier).pointer put.extent).offset ≡ k = omega arith in at)
    ∙ get_or_default (spelling put.content) k 0 d (omega arith)) in
    let read : frame_at (value_limit (after_all first earlier).geometry.format) (spelling put.content)
    ≡ Ok put.content =
    ap (frame_at (value_limit (after_all first earlier).geometry.format)) (sym (append-nil (spelling put.content)))
    ∙ frames.read (value_limit (after_all first earlier).geometry.format) put.content []
    (limit_small (after_all first earlier).geometry.format format) r.content in
    let frame : frame_named (after_all first (pointer_put first earlier put)) (fields_put (after_all first earlier) put)
    ≡ Ok put.content =
    ap (λ g. frame_at (value_limit g.format) (bytes_at (after_all first (bytes_put first earlier put)) put.extent
    ((after_all first earlier).pointer put.extent).offset (length_of put.content))) geometry_same
    ∙ ap (frame_at (value_limit (after_all first earlier).geometry.format)) there ∙ read in
    let slot : Made = record {
      change = Fill put.slot (fields_put (after_all first earlier) put);
      after = put.slot_names;
    } in
    let longest_same : longest_frame (after_all first (bytes_put first earlier put)).geometry.format
    ≡ longest_frame (after_all first earlier).geometry.format = ap (λ g. longest_frame g.format) geometry_same in
    let slots_same : slot_count (after_all first (bytes_put first earlier put)).geometry
    ≡ slot_count (after_all first earlier).geometry = ap slot_count geometry_same in
    let some_key = r.content.some_key in
    let short_key = r.content.short_key in
    let short_frame = sizes.1 in
    let slot_known = r.slot in
    let generation = r.generation in
    let slot_well : IsWellMade first slot (pointer_put first earlier put) =
    names_suffice first slot (pointer_put first earlier put) (point_well, data_well)
    (record {
      known = omega arith;
      fits = record {
        some_key = some_key;
        short_key = short_key;
        extent = omega arith;
        generation = generation;
        offset = omega arith;
        some_frame = some;
        short_frame = omega arith;
      };
      named = record {
        extent = omega arith;
        generation = rw own refl;
        before_pointer = rw own (omega arith);
        content = put.content;
        frame = frame;
        key = refl;
        length = refl;
      };
      only = λ other t ne at. r.only other t ne (sym (same.slot other) ∙ at);
      same_key = λ t at. r.same_key t (sym (same.slot put.slot) ∙ at);
    })
    (record {
      frame = record {
        pointer = point;
        before = bytes_put first earlier put;
        stands = record { later = []; are = refl };
        newest_pointer = rw own refl;
        named = r.slot_named;
        bytes = λ place from to.
            let n = newest_piece put.bytes_names put.extent (length (spelling put.content))
            ((after_all first earlier).pointer put.extent).offset (spelling put.content) earlier place
            (length earlier) (omega arith) (omega arith) from (omega arith) in
            subst (λ x. IfSome x (λ k. IsTrue (is_among put.pointer_names k))) (sym n.is)
            (r.pointer_named n.number n.from n.to);
      };
      upgrade = subst (λ x. IfSome x (λ k. IsTrue (is_among put.slot_names k)))
          (sym (newest_other is_widen (λ e offset bytes. refl) put.bytes_names put.extent
          (length (spelling put.content)) ((after_all first earlier).pointer put.extent).offset
          (spelling put.content) earlier)) r.upgrade_named;
      cleared = λ empty. subst (λ x. IfSome x (λ k. IsTrue (is_among put.slot_names k)))
          (sym (newest_other is_clear (λ e offset bytes. refl) put.bytes_names put.extent
          (length (spelling put.content)) ((after_all first earlier).pointer put.extent).offset
          (spelling put.content) earlier))
          (r.cleared_named (sym (same.slot put.slot) ∙ empty));
    }) in
    record {
      well_made = (slot_well, (point_well, data_well));
      values = λ key. ap (λ r. cond (bytes_eq put.content.key key) (value_read r)
          (last_said (λ n. true) first (bytes_put first earlier put) key)) frame
          ∙ ap (cond (bytes_eq put.content.key key) (Some put.content.value))
          (said_before put.bytes_names first put.extent (length (spelling put.content))
          ((after_all first earlier).pointer put.extent).offset (spelling put.content) earlier key);
      frame = frame;
    }
