-- What is known of the members of a block's records.
use Rattle.std.specs.Prelude.{ℕ, Bool, true, false, min, nat_lt, if◌then◌else◌, ◌&&◌, ◌||◌}
use Rattle.patch_stacks.specs.declared.members.Members.{Members}

abbrev pub no_members : Members
no_members = record { are_apart = true; are_rising = true; others_from = 4294967295; newest = 0 }

-- the number is above all that are known
abbrev pub is_next : Members → ℕ → Bool → Bool
is_next m number only = only || (m.are_apart && nat_lt m.newest number)

-- with a record more, whose one member is this
abbrev pub with_member : Members → ℕ → Bool → Members
with_member m number only = record {
  are_apart = is_next m number only;
  are_rising = is_next m number only && (only || m.are_rising);
  others_from = if only then 4294967295 else m.others_from;
  newest = number;
}

-- where a record went below others
abbrev pub in_disorder : Members → Members
in_disorder m = record m { are_rising = false }

-- with two records as one, of whose names this is the greater, if it has their members alone and the lesser name
abbrev pub joined : Members → Bool → ℕ → Members
joined m both greater = record {
  are_apart = m.are_apart && both;
  are_rising = m.are_rising && both;
  others_from = if both then min m.others_from greater else 0;
  newest = m.newest;
}

-- the number is known to be above all of them
abbrev pub are_below : Members → ℕ → Bool
are_below m number = m.are_apart && nat_lt m.newest number
