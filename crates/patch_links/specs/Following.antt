-- Which classes depend on a class.
use Rattle.std.specs.Prelude.{ℕ, true, ◌≡◌, ◌≢◌, List, Some}
use Rattle.std.specs.List.{list_any}
use Rattle.patch_model.specs.Member.{In}
use Rattle.patch_links.specs.State.{Class, Slots, Numbers, find, class_at, leads, leads_at}

-- These numbers lead to all other classes that depend directly on the class at the key, and to no other ones.
pub record AreFollowers (slots : Slots) (numbers : Numbers) (key : ℕ) (followers : List ℕ) : Type 0 where
  pub each : (n j : ℕ) → In followers n → find numbers n ≡ Some j → j ≢ key → (c : Class) × (class_at slots j ≡ Some c) × (leads numbers c key ≡ true)
  pub all : (j : ℕ) (c : Class) → j ≢ key → class_at slots j ≡ Some c → leads numbers c key ≡ true → list_any (leads_at numbers j) followers ≡ true
