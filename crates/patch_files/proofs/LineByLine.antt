-- The commands of each writer, as the lines come one by one.
use Rattle.std.proofs.Common.{◌≡◌, ◌≢◌, ℕ, ◌<◌, ◌≤◌, ◌∙◌, ◌⊎◌, true, false, List, [], ◌∷◌, ◌++◌, inl, inr, length, map, get_or, refl, sym, ap, subst, arith}
use Rattle.std.specs.Prelude.{Some, None, ◌==◌, filter, filter_map, Vec, slice_set}
use Rattle.std.specs.declared.alloc.Global.{Global}
use Rattle.std.proofs.lemmas.Bool.{cases_Bool, both_ways, eq-eqb, eqb-true, ne_eqb}
use Rattle.std.proofs.lemmas.List.{append-nil, map-set, get_or-set_same, get_or-set_other, get_or-map, length-map, length-set, map-append}
use Rattle.std.proofs.lemmas.List.Elements.{filter-append, filter_map-append}
use Rattle.std.proofs.lemmas.List.FromFn.{fill_by_all, get_or-map-range_with_len}
use Rattle.patch_history.specs.Command.{Command}
use Rattle.patch_history.specs.Commands.{command_of}
use Rattle.patch_history.specs.declared.commands.Command.{Command as CodeCommand}
use Rattle.patch_commands.specs.Asking.{command_on}
use Rattle.patch_commands.specs.Shared.{writer_of}
use Rattle.patch_commands.specs.declared.commands.CommandLine.{CommandLine}
use Rattle.patch_shared.specs.Conversations.{commands_in}
use Rattle.patch_files.specs.Serving.{commands_by, GainsLine}

pub commands_long : (jobs : List (Vec (CodeCommand Global) Global)) → length (commands_in jobs) ≡ length jobs
commands_long jobs = length-map jobs (λ (v : Vec (CodeCommand Global) Global). map command_of v.items)

-- of one line more
commands_more : (n : ℕ) (lines : List CommandLine) (line : CommandLine)
    → commands_by n (lines ++ line ∷ []) ≡ commands_by n lines ++ commands_by n (line ∷ [])
commands_more n lines line =
    ap (filter_map command_on) (filter-append (λ l. writer_of l == n) lines (line ∷ []))
    ∙ filter_map-append command_on (filter (λ l. writer_of l == n) lines) (filter (λ l. writer_of l == n) (line ∷ []))

-- each writer's are what they were, and behind them those of the line
gained : (line : CommandLine) (old new : List (List Command)) → length new ≡ length old
    → ((k : ℕ) → k < length old → get_or new k [] ≡ get_or old k [] ++ commands_by k (line ∷ [])) → GainsLine line old new
gained line old new long each lines is =
    fill_by_all (λ n. commands_by n (lines ++ line ∷ [])) new (length old) [] long (λ k within.
    each k within ∙ ap (λ cs. cs ++ commands_by k (line ∷ [])) (ap (λ xs. get_or xs k []) is ∙ get_or-map-range_with_len (λ n. commands_by n lines) 0 (length old) k k [] within (omega arith))
    ∙ sym (commands_more k lines line))

-- a line of another writer, or one that asks for nothing
another : (k : ℕ) (line : CommandLine) → (writer_of line == k) ≡ false → commands_by k (line ∷ []) ≡ []
another k line other = rw other refl

asks_none : (k : ℕ) (line : CommandLine) → command_on line ≡ None → commands_by k (line ∷ []) ≡ []
asks_none k line none = elim (cases_Bool (writer_of line == k)) [ inl own ↦ rw own (rw none refl) | inr other ↦ another k line other ]

own : (k : ℕ) (line : CommandLine) (command : Command) → (writer_of line == k) ≡ true → command_on line ≡ Some command → commands_by k (line ∷ []) ≡ command ∷ []
own k line command is asks = rw is (rw asks refl)

-- so nobody has more
stays : (line : CommandLine) (old : List (List Command)) → ((k : ℕ) → k < length old → commands_by k (line ∷ []) ≡ []) → GainsLine line old old
stays line old none = gained line old old refl (λ k within. sym (append-nil (get_or old k [])) ∙ ap (λ cs. get_or old k [] ++ cs) (sym (none k within)))

pub nothing_asked : (line : CommandLine) (old : List (List Command)) → command_on line ≡ None → GainsLine line old old
nothing_asked line old none = stays line old (λ k within. asks_none k line none)

pub of_another : (line : CommandLine) (old : List (List Command)) → length old ≤ writer_of line → GainsLine line old old
of_another line old past = stays line old (λ k within. another k line (ne_eqb (writer_of line) k (λ same. absurd (omega (arith, same, past, within)))))

-- the writer's has one more
pub one_more : (line : CommandLine) (jobs : List (Vec (CodeCommand Global) Global)) (w : ℕ) (new was : Vec (CodeCommand Global) Global) (command : CodeCommand Global)
    → w < length jobs → w ≡ writer_of line → Some (command_of command) ≡ command_on line → new.items ≡ was.items ++ command ∷ [] → was ≡ get_or jobs w was
    → GainsLine line (commands_in jobs) (commands_in (slice_set jobs w new))
one_more line jobs w new was command within of_it asks more at =
    gained line (commands_in jobs) (commands_in (slice_set jobs w new))
    (length-map (slice_set jobs w new) f ∙ length-set jobs w new ∙ sym (length-map jobs f))
    (λ k inside. ap (λ xs. get_or xs k []) (map-set f jobs w new) ∙ each k (omega (arith, inside, length-map jobs f)) (cases_Bool (w == k)))
  where
    f : Vec (CodeCommand Global) Global → List Command
    f v = map command_of v.items

    pushed : f new ≡ get_or (map f jobs) w [] ++ command_of command ∷ []
    pushed = ap (map command_of) more ∙ map-append command_of was.items (command ∷ [])
        ∙ ap (λ cs. cs ++ command_of command ∷ []) (ap f at ∙ sym (get_or-map f jobs w was [] within))

    each : (k : ℕ) → k < length jobs → ((w == k) ≡ true) ⊎ ((w == k) ≡ false)
        → get_or (slice_set (map f jobs) w (f new)) k [] ≡ get_or (map f jobs) k [] ++ commands_by k (line ∷ [])
    each k inside (inl same) =
        let e : w ≡ k = eqb-true w k same in
        subst (λ k. get_or (slice_set (map f jobs) w (f new)) k [] ≡ get_or (map f jobs) k [] ++ commands_by k (line ∷ [])) e
        (get_or-set_same (map f jobs) w (f new) [] (omega (arith, within, length-map jobs f)) ∙ pushed
        ∙ ap (λ cs. get_or (map f jobs) w [] ++ cs) (sym (own w line (command_of command) (eq-eqb (writer_of line) w (sym of_it)) (sym asks))))
    each k inside (inr other) =
        let apart : k ≢ w = λ same. absurd (both_ways _ other (eq-eqb w k (sym same))) in
        get_or-set_other (map f jobs) w k (f new) [] apart ∙ sym (append-nil (get_or (map f jobs) k []))
        ∙ ap (λ cs. get_or (map f jobs) k [] ++ cs) (sym (another k line (ap (λ n. n == k) (sym of_it) ∙ other)))
