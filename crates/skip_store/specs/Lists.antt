-- A skip list as the code has it.
use Rattle.std.specs.Prelude.{ℕ}
use Rattle.store.specs.Held.{Held}
use Rattle.skip_store.specs.declared.skips.SkipStore.{SkipStore}
use Rattle.skip_store.specs.Links.{held_of, spot, Sound}

-- its records are linked in clause order
abbrev pub InOrder : SkipStore → Type 0
InOrder s = Sound s.records.now s.links.head s.links.lent.now s.size s.places

-- what it stands for
abbrev pub meaning : SkipStore → Held
meaning s = held_of s.records.now s.size s.places

-- where its entries stand in clause order
abbrev pub spots : SkipStore → ℕ → ℕ
spots s = spot s.records.now
