-- A lock record that is read a part at a time.
use Rattle.std.proofs.Common.{◌≡◌, ℕ, ◌^◌, ◌<◌, List, [], ◌∷◌, ◌++◌, length, refl, sym, ap, ◌∙◌, append_assoc}
use Rattle.std.specs.Prelude.{⊤}
use Rattle.std.specs.Int.{w16, w32, w64, to_be_bytes}
use Rattle.std.proofs.lemmas.List.{append-nil}
use Rattle.tx_types.specs.Kinds.{stored_kind}
use Rattle.tx_types.specs.Locks.{mode_of}
use Rattle.tx_types.specs.declared.key.Key.{Key}
use Rattle.tx_types.specs.declared.mutation.LockKind.{LockKind}
use Rattle.tx_types.specs.declared.mutation.Mode.{Mode}
use Rattle.tx_types.specs.declared.mutation.StoredMutation.{StoredMutation}
use Rattle.tx_types.specs.declared.lock.LockMode.{LockMode}
use Rattle.tx_types.specs.declared.lock.LockRec.{LockRec}
use Rattle.tx_codec.specs.declared.readers.Unread.{Unread}
use Rattle.tx_types.specs.Lengths.{IsKey}
use Rattle.tx_codec.specs.Records.{IsStorable, IsMode, IsLock, kind_byte, mode_byte, key_bytes, others_bytes, value_bytes, lock_bytes}
use Rattle.tx_codec.specs.Readers.{Fails, Takes}
use Rattle.tx_codec.proofs.Parts.{Agrees, Agrees-start, Agrees-then, Agrees-fails, Agrees-done}

-- ---- what follows each part

abbrev from_mutation : LockRec → List ℕ
from_mutation z = value_bytes z.mutation

abbrev from_others : LockRec → List ℕ
from_others z = others_bytes z.mode ++ from_mutation z

abbrev from_primary : LockRec → List ℕ
from_primary z = key_bytes z.primary ++ from_others z

abbrev from_ttl : LockRec → List ℕ
from_ttl z = to_be_bytes w32 z.ttl ++ from_primary z

abbrev from_min : LockRec → List ℕ
from_min z = to_be_bytes w64 z.min ++ from_ttl z

abbrev from_start : LockRec → List ℕ
from_start z = to_be_bytes w64 z.start ++ from_min z

abbrev from_mode : LockRec → List ℕ
from_mode z = (mode_byte (mode_of z.mode) ∷ []) ++ from_start z

abbrev from_kind : LockRec → List ℕ
from_kind z = (kind_byte (stored_kind z.mutation) ∷ []) ++ from_mode z

same_bytes : (z : LockRec) → lock_bytes z ≡ from_kind z
same_bytes z =
    ap (λ (w : List ℕ). (kind_byte (stored_kind z.mutation) ∷ mode_byte (mode_of z.mode)
    ∷ to_be_bytes w64 z.start)
    ++ (to_be_bytes w64 z.min ++ (to_be_bytes w32 z.ttl ++ (to_be_bytes w16 (length z.primary) ++ w))))
    (append_assoc z.primary (others_bytes z.mode) (value_bytes z.mutation))

-- ---- the parts read so far

abbrev Kinds : Type 0
Kinds = Unit {0} × LockKind

abbrev kinds : LockRec → Kinds
kinds z = (tt, stored_kind z.mutation)

abbrev Modes : Type 0
Modes = Kinds × Mode

abbrev modes : LockRec → Modes
modes z = (kinds z, mode_of z.mode)

abbrev Starts : Type 0
Starts = Modes × ℕ

abbrev starts : LockRec → Starts
starts z = (modes z, z.start)

abbrev Mins : Type 0
Mins = Starts × ℕ

abbrev mins : LockRec → Mins
mins z = (starts z, z.min)

abbrev Ttls : Type 0
Ttls = Mins × ℕ

abbrev ttls : LockRec → Ttls
ttls z = (mins z, z.ttl)

abbrev Primaries : Type 0
Primaries = Ttls × Key

abbrev primaries : LockRec → Primaries
primaries z = (ttls z, z.primary)

abbrev Others : Type 0
Others = Primaries × LockMode

abbrev others : LockRec → Others
others z = (primaries z, z.mode)

abbrev Whole : Type 0
Whole = Others × StoredMutation

abbrev whole : LockRec → Whole
whole z = (others z, z.mutation)

-- ---- what each reader promises

abbrev pub TakesKind : List ℕ → LockKind → List ℕ → Type 0
TakesKind bytes kind rest = Takes {X = LockKind} (λ _. ⊤) (λ k. kind_byte k ∷ []) bytes kind rest

abbrev pub TakesMode : List ℕ → Mode → List ℕ → Type 0
TakesMode bytes mode rest = Takes {X = Mode} (λ _. ⊤) (λ m. mode_byte m ∷ []) bytes mode rest

abbrev pub TakesWord : List ℕ → ℕ → List ℕ → Type 0
TakesWord bytes n rest = Takes {X = ℕ} (λ k. k < 2 ^ 64) (to_be_bytes w64) bytes n rest

abbrev pub TakesTtl : List ℕ → ℕ → List ℕ → Type 0
TakesTtl bytes n rest = Takes {X = ℕ} (λ k. k < 2 ^ 32) (to_be_bytes w32) bytes n rest

abbrev pub TakesKey : List ℕ → Key → List ℕ → Type 0
TakesKey bytes key rest = Takes {X = Key} IsKey key_bytes bytes key rest

abbrev pub TakesOthers : Mode → List ℕ → LockMode → List ℕ → Type 0
TakesOthers mode bytes m rest = Takes {X = LockMode} (λ k. (mode_of k ≡ mode) × IsMode k) others_bytes bytes m rest

abbrev pub TakesMutation : LockKind → List ℕ → StoredMutation → List ℕ → Type 0
TakesMutation kind bytes m rest =
    Takes {X = StoredMutation} (λ k. (stored_kind k ≡ kind) × IsStorable k) value_bytes bytes m rest

abbrev Stage : {A : Type 0} → List ℕ → (LockRec → A) → A → (LockRec → List ℕ) → List ℕ → Type 0
Stage {A} bytes pick parts tail rest = Agrees {Z = LockRec} {A = A} IsLock lock_bytes bytes pick parts tail rest

-- ---- one part after the other

nothing_read : (bytes : List ℕ) → Stage {A = Unit {0}} bytes (λ _. tt) tt from_kind bytes
nothing_read bytes = Agrees-start IsLock lock_bytes bytes from_kind same_bytes

kind_read : (bytes : List ℕ) (k : LockKind) (r : List ℕ) → TakesKind bytes k r
    → Stage {A = Kinds} bytes kinds (tt, k) from_mode r
kind_read bytes k r t = Agrees-then (nothing_read bytes) (λ z. stored_kind z.mutation) from_mode (λ z. refl)
    (λ z i e. tt) t

mode_read : {bytes : List ℕ} {k : LockKind} {r : List ℕ}
    → Stage {A = Kinds} bytes kinds (tt, k) from_mode r → (m : Mode) (r' : List ℕ) → TakesMode r m r'
    → Stage {A = Modes} bytes modes ((tt, k), m) from_start r'
mode_read so_far m r' t = Agrees-then so_far (λ z. mode_of z.mode) from_start (λ z. refl) (λ z i e. tt) t

start_read : {bytes : List ℕ} {p : Modes} {r : List ℕ}
    → Stage {A = Modes} bytes modes p from_start r → (n : ℕ) (r' : List ℕ) → TakesWord r n r'
    → Stage {A = Starts} bytes starts (p, n) from_min r'
start_read so_far n r' t = Agrees-then so_far (λ z. z.start) from_min (λ z. refl) (λ z i e. i.start) t

min_read : {bytes : List ℕ} {p : Starts} {r : List ℕ}
    → Stage {A = Starts} bytes starts p from_min r → (n : ℕ) (r' : List ℕ) → TakesWord r n r'
    → Stage {A = Mins} bytes mins (p, n) from_ttl r'
min_read so_far n r' t = Agrees-then so_far (λ z. z.min) from_ttl (λ z. refl) (λ z i e. i.min) t

ttl_read : {bytes : List ℕ} {p : Mins} {r : List ℕ}
    → Stage {A = Mins} bytes mins p from_ttl r → (n : ℕ) (r' : List ℕ) → TakesTtl r n r'
    → Stage {A = Ttls} bytes ttls (p, n) from_primary r'
ttl_read so_far n r' t = Agrees-then so_far (λ z. z.ttl) from_primary (λ z. refl) (λ z i e. i.ttl) t

primary_read : {bytes : List ℕ} {p : Ttls} {r : List ℕ}
    → Stage {A = Ttls} bytes ttls p from_primary r → (key : Key) (r' : List ℕ) → TakesKey r key r'
    → Stage {A = Primaries} bytes primaries (p, key) from_others r'
primary_read so_far key r' t = Agrees-then so_far (λ z. z.primary) from_others (λ z. refl) (λ z i e. i.primary) t

others_read : {bytes : List ℕ} {p : Primaries} {r : List ℕ} → Stage {A = Primaries} bytes primaries p from_others r
    → (m : LockMode) (r' : List ℕ) → TakesOthers p.0.0.0.0.1 r m r'
    → Stage {A = Others} bytes others (p, m) from_mutation r'
others_read so_far m r' t =
    Agrees-then so_far (λ z. z.mode) from_mutation (λ z. refl)
    (λ z i e. (ap (λ (q : Primaries). q.0.0.0.0.1) e, i.mode)) t

mutation_read : {bytes : List ℕ} {p : Others} {r : List ℕ} → Stage {A = Others} bytes others p from_mutation r
    → (m : StoredMutation) (r' : List ℕ) → TakesMutation p.0.0.0.0.0.0.1 r m r'
    → Stage {A = Whole} bytes whole (p, m) (λ _. []) r'
mutation_read so_far m r' t = Agrees-then so_far (λ z. z.mutation)
    (λ _. []) (λ z. sym (append-nil (value_bytes z.mutation)))
    (λ z i e. (ap (λ (q : Others). q.0.0.0.0.0.0.1) e, i.mutation)) t

-- ---- what could not be read

pub record Head (bytes rest : List ℕ) (k : LockKind) (m : Mode) (s n t : ℕ) : Type 0 where
  pub stage : Stage {A = Ttls} bytes ttls (((((tt, k), m), s), n), t) from_primary rest

pub head_read : (bytes : List ℕ) {k : LockKind} {m : Mode} {s n t : ℕ} {r1 r2 r3 r4 r5 : List ℕ}
    → TakesKind bytes k r1 → TakesMode r1 m r2 → TakesWord r2 s r3 → TakesWord r3 n r4 → TakesTtl r4 t r5
    → Head bytes r5 k m s n t
head_read bytes {k} {m} {s} {n} {t} {r1} {r2} {r3} {r4} {r5} a b c d e =
    record { stage = ttl_read (min_read (start_read (mode_read (kind_read bytes k r1 a) m r2 b) s r3 c) n r4 d) t r5 e }

pub ttl_fails : (bytes : List ℕ) {k : LockKind} {m : Mode} {s n : ℕ} {r1 r2 r3 r4 : List ℕ}
    → TakesKind bytes k r1 → TakesMode r1 m r2 → TakesWord r2 s r3
    → TakesWord r3 n r4 → (e : Unread) → Fails {X = ℕ} (λ k. k < 2 ^ 32) (to_be_bytes w32) r4 e
    → Fails IsLock lock_bytes bytes e
ttl_fails bytes {k} {m} {s} {n} {r1} {r2} {r3} {r4} a b c d e fails =
    Agrees-fails (min_read (start_read (mode_read (kind_read bytes k r1 a) m r2 b) s r3 c) n r4 d)
    (λ z. z.ttl) from_primary (λ k. k < 2 ^ 32) (to_be_bytes w32) (λ z. refl) (λ z i _. i.ttl) e fails

pub primary_fails : {bytes rest : List ℕ} {k : LockKind} {m : Mode} {s n t : ℕ} → Head bytes rest k m s n t
    → (e : Unread) → Fails IsKey key_bytes rest e → Fails IsLock lock_bytes bytes e
primary_fails head e fails = Agrees-fails head.stage (λ z. z.primary) from_others IsKey key_bytes (λ z. refl)
    (λ z i _. i.primary) e fails

pub others_fails : {bytes rest rest' : List ℕ} {k : LockKind} {m : Mode} {s n t : ℕ} → Head bytes rest k m s n t
    → (key : Key) → TakesKey rest key rest'
    → (e : Unread) → Fails {X = LockMode} (λ o. (mode_of o ≡ m) × IsMode o) others_bytes rest' e
    → Fails IsLock lock_bytes bytes e
others_fails {rest' = rest'} {m = m} head key f e fails =
    Agrees-fails (primary_read head.stage key rest' f) (λ z. z.mode) from_mutation
    (λ o. (mode_of o ≡ m) × IsMode o) others_bytes (λ z. refl)
    (λ z i h. (ap (λ (q : Primaries). q.0.0.0.0.1) h, i.mode)) e fails

pub mutation_fails : {bytes rest rest' rest'' : List ℕ} {k : LockKind} {m : Mode}
    {s n t : ℕ} → Head bytes rest k m s n t → (key : Key) → TakesKey rest key rest' → (o : LockMode)
    → TakesOthers m rest' o rest''
    → (e : Unread) → Fails {X = StoredMutation} (λ v. (stored_kind v ≡ k) × IsStorable v) value_bytes rest'' e
    → Fails IsLock lock_bytes bytes e
mutation_fails {rest' = rest'} {rest'' = rest''} {k = k} head key f o g e fails =
    Agrees-fails (others_read (primary_read head.stage key rest' f) o rest'' g) (λ z. z.mutation) (λ _. [])
    (λ v. (stored_kind v ≡ k) × IsStorable v) value_bytes
    (λ z. sym (append-nil (value_bytes z.mutation))) (λ z i h. (ap (λ (q : Others). q.0.0.0.0.0.0.1) h, i.mutation)) e
    fails

-- ---- all of it

abbrev build : Whole → LockRec
build p = record {
  mutation = p.1;
  mode = p.0.1;
  start = p.0.0.0.0.0.1;
  min = p.0.0.0.0.1;
  ttl = p.0.0.0.1;
  primary = p.0.0.1;
}

parts_are : (p : Whole) → stored_kind p.1 ≡ p.0.0.0.0.0.0.0.1 → mode_of p.0.1 ≡ p.0.0.0.0.0.0.1 → whole (build p) ≡ p
parts_are p k m =
    ap (λ (x : LockKind). let modes' : Modes = ((tt, x), mode_of p.0.1) in let starts' : Starts =
    (modes', p.0.0.0.0.0.1) in let mins' : Mins = (starts', p.0.0.0.0.1) in let ttls' : Ttls = (mins', p.0.0.0.1) in
    let primaries' : Primaries = (ttls', p.0.0.1) in let others' : Others = (primaries', p.0.1) in let all : Whole =
    (others', p.1) in all) k
    ∙ ap (λ (x : Mode). let modes' : Modes = (p.0.0.0.0.0.0.0, x) in let starts' : Starts =
    (modes', p.0.0.0.0.0.1) in let mins' : Mins = (starts', p.0.0.0.0.1) in let ttls' : Ttls = (mins', p.0.0.0.1) in
    let primaries' : Primaries = (ttls', p.0.0.1) in let others' : Others = (primaries', p.0.1) in let all : Whole =
    (others', p.1) in all) m

pub lock_taken : {bytes rest rest' rest'' rest''' : List ℕ} {k : LockKind} {m : Mode} {s n t : ℕ}
    → Head bytes rest k m s n t → s < 2 ^ 64 → n < 2 ^ 64 → t < 2 ^ 32
    → (key : Key) → TakesKey rest key rest' → (o : LockMode) → TakesOthers m rest' o rest'' → (v : StoredMutation)
    → TakesMutation k rest'' v rest'''
    → Takes IsLock lock_bytes bytes (record { mutation = v; mode = o; start = s; min = n; ttl = t; primary = key })
    rest'''
lock_taken {rest' = rest'} {rest'' = rest''} {rest''' = rest'''} {k = k} {m = m} {s = s} {n = n} {t = t} head hs hn ht
    key f o g v h =
    let all = mutation_read (others_read (primary_read head.stage key rest' f) o rest'' g) v rest''' h in
    Agrees-done all build (λ z. refl) (parts_are (((((((((tt, k), m), s), n), t), key), o), v)) h.is.0 g.is.0)
    (λ z. refl)
    (record { start = hs; min = hn; ttl = ht; primary = f.is; mode = g.is.1; mutation = h.is.1 })
