-- What a source of a classic capture has given of a file, and what it has noted of it.
use Rattle.std.proofs.Common.{◌≡◌, ◌∙◌, ℕ, List, [], ◌∷◌, ◌++◌, append-nil, append_assoc, length, take, drop, Option, None, Some, option_map, ap, sym, refl, subst, arith}
use Rattle.std.specs.List.{flat_map}
use Rattle.std.specs.Option.{option_or}
use Rattle.std.specs.Io.KnownBytes.{Consumes, IsAtEnd}
use Rattle.std.proofs.KnownBytes.{Consumes-nil, Consumes-trans}
use Rattle.std.proofs.Math.Seq.{drop-append_seam, take-append_seam}
use Rattle.std.proofs.lemmas.List.Concat.{flat_map-cons}
use Rattle.byteorder.specs.Endian.{little_bytes}
use Rattle.byteorder.specs.Numbers.{length-bytes_low_first}
use Rattle.rasta_pcap.specs.Noting.{NotesOn, PassesOn}
use Rattle.seatmelon_pcapng.specs.Classics.{Stays, given_by, left_by, left_in, refusal_in, remarks_in, remarks_left, remarks_left_by, remarks_with, rest_in, source_of, state_with}
use Rattle.seatmelon_pcapng.specs.Giving.{Gives, noted_by, told_as}
use Rattle.seatmelon_pcapng.specs.LinkTypes.{first_of, no_link_types}
use Rattle.seatmelon_pcapng.specs.Memory.{bytes_held}
use Rattle.seatmelon_pcapng.specs.Progress.{refusal_by}
use Rattle.seatmelon_pcapng.specs.Readings.{Packet, Reading, behind, classic_of, front_bytes, mark_of, packet_bytes, reading_left, reading_of, records_bytes, remarks_by, remarks_of}
use Rattle.seatmelon_pcapng.specs.Sections.{interfaces_in, link_types_met, order_in}
use Rattle.seatmelon_pcapng.specs.declared.classic.Classic.{Classic}
use Rattle.seatmelon_pcapng.specs.declared.classic.Progress.{Progress}
use Rattle.seatmelon_pcapng.specs.declared.classic.Progress.TheVariants.{Going, Ended}
use Rattle.seatmelon_pcapng.specs.declared.interface.Interface.{Interface}
use Rattle.seatmelon_pcapng.specs.declared.link_types.LinkTypes.{LinkTypes}
use Rattle.seatmelon_pcapng.specs.declared.order.Order.{Order}
use Rattle.seatmelon_pcapng.specs.declared.refusal.Refusal.{Refusal}
use Rattle.seatmelon_pcapng.specs.declared.remarks.Remarks.{Remarks}
use Rattle.seatmelon_pcapng.proofs.LinkTypeLemmas.{first_of-none}
use Rattle.seatmelon_pcapng.proofs.Steps.{met-none}

still : (old new : Option Remarks) (r : Remarks) → Stays old new → old ≡ Some r → new ≡ Some r
still old new r stays is = rw is at stays

module _ {S : Type 0} (remaining : S → Option (List ℕ)) (notes : S → List ℕ → Type 0) where
  -- some bytes were read, and some given
  pub gives-more : (old new : Classic S) (file given more : List ℕ) → PassesOn remaining notes (source_of old) (source_of new)
      → Consumes (left_in remaining old) (left_in remaining new) more → Stays (remarks_left remaining old) (remarks_left remaining new)
      → Gives remaining notes old file given → Gives remaining notes new file (given ++ more)
  gives-more old new file given more passed bytes stays g = record {
    read = g.read ++ passed.0;
    noted = passed.2 g.read g.noted;
    passed = Consumes-trans (Some file) (remaining (source_of old)) (remaining (source_of new)) g.read passed.0 g.passed passed.1;
    left = Consumes-trans (Some (classic_of (reading_of file))) (left_in remaining old) (left_in remaining new) given more g.left bytes;
    remarks = still (remarks_left remaining old) (remarks_left remaining new) (remarks_of (reading_of file)) stays g.remarks;
  }

  -- and that is noted
  pub noted-more : (old new : Classic S) (more : List ℕ) → PassesOn remaining notes (source_of old) (source_of new)
      → Consumes (left_in remaining old) (left_in remaining new) more → Stays (remarks_left remaining old) (remarks_left remaining new)
      → (told : List ℕ) → noted_by remaining notes old told → noted_by remaining notes new (told ++ more)
  noted-more old new more passed bytes stays told h = (
    h.0,
    h.1 ++ more,
    ap (λ l. l ++ more) h.2 ∙ append_assoc (told_as h.0) h.1 more,
    gives-more old new h.0 h.1 more passed bytes stays h.3,
  )

  -- so it is where nothing was read
  pub noted-filled : (old new : Classic S) (more : List ℕ) → source_of new ≡ source_of old → Consumes (left_in remaining old) (left_in remaining new) more
      → Stays (remarks_left remaining old) (remarks_left remaining new) → NotesOn (noted_by remaining notes) old new more
  noted-filled old new more same bytes stays =
      let passed : PassesOn remaining notes (source_of old) (source_of old) =
      ([], Consumes-nil (remaining (source_of old)), λ read h. subst (notes (source_of old)) (sym (append-nil read)) h) in
      noted-more old new more (subst (PassesOn remaining notes (source_of old)) (sym same) passed) bytes stays

  -- where nothing was read, and nothing given
  pub noted-begins : (c : Classic S) (file : List ℕ) → remaining (source_of c) ≡ Some file → notes (source_of c) []
      → left_in remaining c ≡ Some (classic_of (reading_of file)) → remarks_left remaining c ≡ Some (remarks_of (reading_of file)) → noted_by remaining notes c (told_as file)
  noted-begins c file is noted left remarks = (
    file,
    [],
    sym (append-nil (told_as file)),
    record {
      read = [];
      noted = noted;
      passed = subst (λ o. Consumes (Some file) o []) (sym is) (Consumes-nil (Some file));
      left = subst (λ o. Consumes (Some (classic_of (reading_of file))) o []) (sym left) (Consumes-nil (Some (classic_of (reading_of file))));
      remarks = remarks;
    },
  )

-- ---- a file is read off from how it is told

parts : (f f' g g' : List ℕ) → length f ≡ length f' → f ++ g ≡ f' ++ g' → (f ≡ f') × (g ≡ g')
parts f f' g g' size e = (
  sym (take-append_seam f g) ∙ ap (λ n. take n (f ++ g)) size ∙ ap (take (length f')) e ∙ take-append_seam f' g',
  sym (drop-append_seam f g) ∙ ap (λ n. drop n (f ++ g)) size ∙ ap (drop (length f')) e ∙ drop-append_seam f' g',
)

first_and_rest : (n m : ℕ) (l k : List ℕ) → n ∷ l ≡ m ∷ k → (n ≡ m) × (l ≡ k)
first_and_rest n m l k e = (let first : n ≡ m = cc in let rest : l ≡ k = cc in (first, rest))

pub told_apart : (file other given more : List ℕ) → told_as file ++ given ≡ told_as other ++ more → (file ≡ other) × (given ≡ more)
told_apart file other given more e =
    let both = first_and_rest (length file) (length other) (file ++ given) (other ++ more) e in
    parts file other given more both.0 both.1

-- ---- what is known of what is told of a file beside its packets

none_before : (l m : List ℕ) → l ++ m ≡ [] → l ≡ []
none_before [] m e = refl
none_before (x ∷ l) m e = absurd cc

pub none_behind : (l m : List ℕ) → l ++ m ≡ [] → m ≡ []
none_behind [] m e = e
none_behind (x ∷ l) m e = absurd cc

no_mark : (r : Option Refusal) → mark_of r ≡ [] → r ≡ None
no_mark None e = refl
no_mark (Some refusal) e = absurd cc

-- a record has some bytes
some_front : (p : Packet) → front_bytes p ≡ [] → ⊥
some_front p e =
    let seconds = little_bytes 4 p.seconds in
    let size : length seconds ≡ 4 = length-bytes_low_first 0 4 p.seconds in
    let none : length seconds ≡ 0 = ap length (none_before seconds _ e) in
    absurd {A = ⊥} (omega (arith, size, none))

no_packet : (packets : List Packet) → flat_map packet_bytes packets ≡ [] → packets ≡ []
no_packet [] e = refl
no_packet (p ∷ packets) e =
    let record_none = none_before (packet_bytes p) (flat_map packet_bytes packets) (sym (flat_map-cons packet_bytes p packets) ∙ e) in
    absurd (some_front p (none_before (front_bytes p) p.bytes record_none))

module _ (held : List ℕ) (reading : Reading) (e : held ++ records_bytes reading ≡ []) where
  no_record : records_bytes reading ≡ []
  no_record = none_behind held (records_bytes reading) e

  refusal_none : reading.refusal ≡ None
  refusal_none = no_mark reading.refusal (none_behind (flat_map packet_bytes reading.packets) (mark_of reading.refusal) no_record)

  packets_none : reading.packets ≡ []
  packets_none = no_packet reading.packets (none_before (flat_map packet_bytes reading.packets) (mark_of reading.refusal) no_record)

behind_none : (met : LinkTypes) (r : Reading) → r.refusal ≡ None → r.met ≡ no_link_types → remarks_by None met ≡ behind met (remarks_of r)
behind_none met r refusal none =
    ap (remarks_by None) (first_of-none met) ∙ ap (λ (m : LinkTypes). remarks_by None (first_of met m)) (sym none)
    ∙ ap (λ (a : Option Refusal). remarks_by a (first_of met r.met)) (sym refusal)

module _ (met : LinkTypes) (order : Option Order) (interfaces : List Interface) (at : ℕ) (held : List ℕ) where
  abbrev reading_with : List ℕ → Reading
  reading_with rest = reading_left (record { order = order; interfaces = interfaces; at = at; rest = rest })

  none-known : (known : Option (List ℕ)) (r : Remarks) → option_map (given_by order interfaces at held) known ≡ Some []
      → option_map (λ rest. behind met (remarks_of (reading_with rest))) known ≡ Some r → remarks_by None met ≡ r
  none-known None r all is = absurd cc
  none-known (Some rest) r all is =
      let reading = reading_with rest in
      let end : held ++ records_bytes reading ≡ [] = cc in
      let same : behind met (remarks_of reading) ≡ r = cc in
      behind_none met reading (refusal_none held reading end) (met-none (length rest) _ (packets_none held reading end)) ∙ same

  all-given : (known : Option (List ℕ)) (p : Progress) (r : Remarks) → left_by held (option_map (given_by order interfaces at held) known) p ≡ Some []
      → remarks_left_by met (option_map (λ rest. behind met (remarks_of (reading_with rest))) known) p ≡ Some r → remarks_by (refusal_by p) met ≡ r
  all-given known Going r all is = none-known known r all is
  all-given known (Ended refusal) r all is = cc

refusal-met : (met : LinkTypes) (known : Option Remarks) (p : Progress) (refusal : Refusal) (r : Remarks) → refusal_by p ≡ Some refusal
    → remarks_left_by met known p ≡ Some r → r.refusal ≡ Some refusal
refusal-met met known Going refusal r is left = absurd cc
refusal-met met known (Ended found) refusal r is left = (let same : remarks_by found met ≡ r = cc in ap (λ (t : Remarks). t.refusal) (sym same) ∙ is)

-- one of the link types that are met, and what is told of it
module _ (pick : LinkTypes → Option ℕ) (told : Remarks → Option ℕ) (told_is : (refusal : Option Refusal) (met : LinkTypes) → told (remarks_by refusal met) ≡ pick met)
    (first_is : (first next : LinkTypes) → pick (first_of first next) ≡ option_or (pick first) (pick next)) (met : LinkTypes) (link_type : ℕ) (is : pick met ≡ Some link_type) where
  first_met : (r : Remarks) → told (behind met r) ≡ Some link_type
  first_met r =
      let next : LinkTypes = record { other = r.other_link_type; cooked = r.cooked_link_type } in
      told_is r.refusal (first_of met next) ∙ first_is met next ∙ ap (λ (o : Option ℕ). option_or o (pick next)) is

  known-met : (ends : List ℕ → Remarks) (known : Option (List ℕ)) (r : Remarks) → option_map (λ rest. behind met (ends rest)) known ≡ Some r → told r ≡ Some link_type
  known-met ends None r left = absurd cc
  known-met ends (Some rest) r left =
      let same : behind met (ends rest) ≡ r = cc in
      ap told (sym same) ∙ first_met (ends rest)

  link_type-met : (ends : List ℕ → Remarks) (known : Option (List ℕ)) (p : Progress) (r : Remarks)
      → remarks_left_by met (option_map (λ rest. behind met (ends rest)) known) p ≡ Some r → told r ≡ Some link_type
  link_type-met ends known Going r left = known-met ends known r left
  link_type-met ends known (Ended refusal) r left = (let same : remarks_by refusal met ≡ r = cc in ap told (sym same) ∙ told_is refusal met ∙ is)

known_end : (left : Option (List ℕ)) (whole given : List ℕ) → Consumes (Some whole) left given → IsAtEnd left → left ≡ Some []
known_end None whole given h end = absurd h
known_end (Some rest) whole given h end = ap (λ (l : List ℕ). Some l) end

module _ {S : Type 0} (remaining : S → Option (List ℕ)) (notes : S → List ℕ → Type 0) (c : Classic S) (file given : List ℕ) where
  -- a file that was told is the one that is noted
  pub gives-told : noted_by remaining notes c (told_as file ++ given) → Gives remaining notes c file given
  gives-told h =
      let same = told_apart file h.0 given h.1 h.2 in
      subst (λ f. Gives remaining notes c f given) (sym same.0) (subst (Gives remaining notes c h.0) (sym same.1) h.3)

  -- once all was given, what is told beside the packets is that of the file
  gives-all : Gives remaining notes c file given → left_in remaining c ≡ Some [] → remarks_in c ≡ remarks_of (reading_of file)
  gives-all g all =
      all-given (link_types_met c.section) (order_in c.section) (interfaces_in c.section) c.at (bytes_held c.held) (rest_in remaining c) c.progress
      (remarks_of (reading_of file)) all g.remarks

  pub gives-remarks : Gives remaining notes c file given → IsAtEnd (left_in remaining c) → remarks_in c ≡ remarks_of (reading_of file)
  gives-remarks g end = gives-all g (known_end (left_in remaining c) (classic_of (reading_of file)) given g.left end)

  pub gives-ended : Gives remaining notes c file given → IsAtEnd (left_in remaining c) → refusal_in c ≡ (reading_of file).refusal
  gives-ended g end = ap (λ (r : Remarks). r.refusal) (gives-remarks g end)

  -- a refusal that was met is that of the file
  pub gives-refused : (refusal : Refusal) → Gives remaining notes c file given → refusal_in c ≡ Some refusal → (reading_of file).refusal ≡ Some refusal
  gives-refused refusal g is =
      refusal-met (link_types_met c.section) (option_map (remarks_with c) (rest_in remaining c)) c.progress refusal (remarks_of (reading_of file)) is g.remarks

  -- so is a link type
  pub gives-other : (link_type : ℕ) → Gives remaining notes c file given → (link_types_met c.section).other ≡ Some link_type → (reading_of file).met.other ≡ Some link_type
  gives-other link_type g is =
      link_type-met (λ met. met.other) (λ r. r.other_link_type) (λ refusal met. refl) (λ first next. refl) (link_types_met c.section) link_type is
      (λ rest. remarks_of (reading_left (state_with c rest))) (rest_in remaining c) c.progress (remarks_of (reading_of file)) g.remarks

  pub gives-cooked : (link_type : ℕ) → Gives remaining notes c file given → (link_types_met c.section).cooked ≡ Some link_type → (reading_of file).met.cooked ≡ Some link_type
  gives-cooked link_type g is =
      link_type-met (λ met. met.cooked) (λ r. r.cooked_link_type) (λ refusal met. refl) (λ first next. refl) (link_types_met c.section) link_type is
      (λ rest. remarks_of (reading_left (state_with c rest))) (rest_in remaining c) c.progress (remarks_of (reading_of file)) g.remarks

-- what passed a source of which a file was told is what it gave of that file
pub gives-passed : {S : Type 0} (remaining : S → Option (List ℕ)) (notes : S → List ℕ → Type 0) (old new : Classic S) (file : List ℕ)
    → noted_by remaining notes old (told_as file) → (passed : PassesOn (left_in remaining) (noted_by remaining notes) old new) → Gives remaining notes new file passed.0
gives-passed remaining notes old new file told passed = gives-told remaining notes new file passed.0 (passed.2 (told_as file) told)
