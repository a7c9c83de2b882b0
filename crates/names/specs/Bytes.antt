-- Which words are names, and their order by bytes.
use Rattle.std.specs.Prelude.{◌≡◌, ℕ, zero, suc, ◌+◌, ◌*◌, ◌^◌, ◌<◌, Bool, true, cond, ◌&&◌, ◌⊎◌, List, [], ◌∷◌, length, take, Ok, Err, Result, nat_le, slice_index}
use Rattle.std.specs.declared.cmp.Ordering.TheVariants.{Less, Equal, Greater}
use Rattle.std.specs.declared.cmp.Ordering.{Ordering}
use Rattle.std.specs.List.{list_all}
use Rattle.clause.specs.Refusals.{Told, refused}

-- a byte that may stand in a name: 21 to 7E hex
abbrev pub visible : ℕ → Bool
visible b = nat_le 0x21 b && nat_le b 0x7e

-- every byte of w may
abbrev pub visibles : List ℕ → Bool
visibles = list_all visible

-- w is a name: 1 to 16 such bytes
abbrev pub is_name : List ℕ → Bool
is_name w = nat_le 1 (length w) && (nat_le (length w) 16 && visibles w)

-- the name that w is, or its refusal
abbrev pub naming : List ℕ → Result (List ℕ) Told
naming w = cond (is_name w) (Ok w) (Err (refused 19 0))

-- v comes before w: they agree up to some place, and there v has ended or has the lesser byte
pub record Before (v w : List ℕ) : Type 0 where
  pub place : ℕ
  pub alike : take place v ≡ take place w
  pub within : place < length w
  pub less : (length v ≡ place) ⊎ ((place < length v) × (slice_index v place < slice_index w place))

-- the answer of a comparison, by bytes
abbrev pub ByBytes : List ℕ → List ℕ → Ordering → Type 0
ByBytes v w Less = Before v w
ByBytes v w Equal = v ≡ w
ByBytes v w Greater = Before w v

-- the number that w writes in base 256 with k digits, of which those that are missing are 0
unfoldable pub worth : ℕ → List ℕ → ℕ
worth zero w = 0
worth (suc k) [] = 0
worth (suc k) (b ∷ bs) = b * 256 ^ k + worth k bs

-- where a name stands in the order of names
abbrev pub rank : List ℕ → ℕ
rank w = worth 16 w

-- the order of the numbers is the order by bytes, and different names have different numbers
abbrev pub OrderLaw : Type 0
OrderLaw = (v w : List ℕ) → is_name v ≡ true → is_name w ≡ true → (Before v w → rank v < rank w) × (rank v < rank w → Before v w) × (rank v ≡ rank w → v ≡ w)
