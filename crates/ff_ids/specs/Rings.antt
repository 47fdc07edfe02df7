-- Rings: the order of members on a ring, and the nearest of a list before and after a member.
use Rattle.std.specs.Prelude.{◌≡◌, ◌≢◌, ℕ, Bool, false, ◌&&◌, ◌||◌, not, ◌==◌, List, Option, filter, find, option_map, Contains, All}
use Rattle.std.specs.List.{list_all}
use Rattle.std.specs.Ordering.{nat_cmp, ordering_then, is_lt}
use Rattle.std.specs.Cmp.Lexicographic.{slice_cmp}
use Rattle.std.specs.declared.cmp.Ordering.{Ordering}

-- What orders a member on a ring: the bytes of its place there, and its number where places tie.
pub record Key : Type 0 where
  pub place : List ℕ
  pub number : ℕ

-- The order of a ring: by the bytes of the places, and where these are equal by number.
abbrev pub key_cmp : Key → Key → Ordering
key_cmp a b = ordering_then (slice_cmp nat_cmp a.place b.place) (nat_cmp a.number b.number)

-- The first comes before the second in that order.
abbrev pub is_below : Key → Key → Bool
is_below a b = is_lt (key_cmp a b)

-- Going round the ring from a, b comes strictly before c.
abbrev pub is_between : Key → Key → Key → Bool
is_between a b c = (is_below a b && is_below b c) || (is_below b c && is_below c a) || (is_below c a && is_below a b)

-- The keys of the list other than that of the member.
abbrev pub others : ℕ → List Key → List Key
others member keys = filter (λ k. not (k.number == member)) keys

-- No key of the list lies strictly between the two, going round from the first to the second.
abbrev pub none_between : List Key → Key → Key → Bool
none_between keys from until = list_all (λ w. not (is_between from w until)) keys

-- Of the listed members other than m, the one with nobody else between it and m.
abbrev pub nearest_before : List Key → Key → Option ℕ
nearest_before keys m = option_map (λ v. v.number) (find (λ v. none_between (others m.number keys) v m) (others m.number keys))

-- Of the listed members other than m, the one with nobody else between m and it.
abbrev pub nearest_after : List Key → Key → Option ℕ
nearest_after keys m = option_map (λ v. v.number) (find (λ v. none_between (others m.number keys) m v) (others m.number keys))

-- v is listed and isn't m, and no listed member other than m lies strictly between v and m.
pub record IsNearestBefore (keys : List Key) (m v : Key) : Type 0 where
  pub listed : Contains keys v
  pub other : v.number ≢ m.number
  pub nearest : All (λ w. w.number ≢ m.number → is_between v w m ≡ false) keys

-- v is listed and isn't m, and no listed member other than m lies strictly between m and v.
pub record IsNearestAfter (keys : List Key) (m v : Key) : Type 0 where
  pub listed : Contains keys v
  pub other : v.number ≢ m.number
  pub nearest : All (λ w. w.number ≢ m.number → is_between m w v ≡ false) keys
