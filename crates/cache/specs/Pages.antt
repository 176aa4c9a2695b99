-- The eight pages of a cache: what they keep, and what each call leaves in them.
use Rattle.std.specs.Prelude.{◌≡◌, ℕ, ◌*◌, ◌%◌, ◌<◌, Bool, false, cond, List, [], Some, None, Option, ◌==◌, slice_index_or, slice_set}
use Rattle.byte_lists.specs.Bytes.{part}
use Rattle.faults.specs.declared.device.DeviceFault.{DeviceFault}
use Rattle.device.specs.Meanings.{Meaning, Writes}
use Rattle.cache.specs.declared.pages.Page.{Page}

-- page k
abbrev pub page_at : List Page → ℕ → Page
page_at pages k = slice_index_or pages k (record { sector = None; bytes = [] })

-- the page of a sector: sector s belongs to page s mod 8
abbrev pub page_of : List Page → ℕ → Page
page_of pages s = page_at pages (s % 8)

abbrev pub is_sector : Option ℕ → ℕ → Bool
is_sector (Some t) s = t == s
is_sector None s = false

-- whether a sector is kept
abbrev pub kept : List Page → ℕ → Bool
kept pages s = is_sector (page_of pages s).sector s

-- a page that keeps a sector of this device
abbrev pub page_for : Meaning → ℕ → Page
page_for m s = record { sector = Some s; bytes = part m.bytes (512 * s) 512 }

-- a page that keeps nothing any more
abbrev pub emptied : Page → Page
emptied p = record { sector = None; bytes = p.bytes }

-- a page in use keeps a sector that belongs to it, never sector 0, and equals that sector
abbrev pub EqualTo : Meaning → ℕ → Option ℕ → List ℕ → Type 0
EqualTo m k None bytes = Unit {0}
EqualTo m k (Some s) bytes = (0 < s) × (s % 8 ≡ k) × (s < m.sectors) × (bytes ≡ part m.bytes (512 * s) 512)

-- the cache's condition: so does each of the eight
abbrev pub AllEqual : Meaning → List Page → Type 0
AllEqual m pages = (k : ℕ) → k < 8 → EqualTo m k (page_at pages k).sector (page_at pages k).bytes

-- the pages after a read of sector s: sector 0 is never kept, a hit changes no page, a miss fills the sector's page and no other
abbrev pub after_read : Option DeviceFault → Meaning → ℕ → List Page → List Page
after_read None m s pages = cond (s == 0) pages (cond (kept pages s) pages (slice_set pages (s % 8) (page_for m s)))
after_read (Some f) m s pages = pages

-- the pages after a write of sector s that leaves the device m: one that is done leaves a kept sector's page equal to it, a cut empties the sector's page, no other page changes
abbrev pub after_write : Option DeviceFault → Option Writes → Meaning → ℕ → List Page → List Page
after_write None (Some w) m s pages = cond (kept pages s) (slice_set pages (s % 8) (page_for m s)) pages
after_write None None m s pages = slice_set pages (s % 8) (emptied (page_of pages s))
after_write (Some f) w m s pages = pages
