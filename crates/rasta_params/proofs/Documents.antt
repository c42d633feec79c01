-- Tables and arrays of a document, as the code holds them.
use Rattle.std.proofs.Common.{◌≡◌, ℕ, ◌+◌, ◌<◌, ◌≤◌, List, [], ◌∷◌, ◌++◌, length, Bool, true, false, ◌&&◌, Some, None, is_some, Result, Ok, Err, ap, refl, sym, ◌∙◌, append_assoc, append-nil, string_bytes, drop, get_or, nat_le, cond, ◌⊎◌, inl, inr, arith}
use Rattle.std.specs.List.{list_all, list_any}
use Rattle.std.specs.Map.{keys_of}
use Rattle.std.specs.Str.{bytes_eq}
use Rattle.toml.specs.Data.{as_table, Members}
use Rattle.toml.specs.Parse.{parse_document}
use Rattle.std.specs.Str.{is_utf8, IsUtf8}
use Rattle.std.proofs.lemmas.Str.{IsUtf8-from_is_utf8, is_utf8-from_IsUtf8}
use Rattle.rasta_pcap.specs.Fault.{fault_at, no_memory, not_toml}
use Rattle.std.proofs.lemmas.List.Folds.{list_all-append}
use Rattle.rasta_pdu.specs.Params.{Parameters, has_ports}
use Rattle.toml.specs.declared.value.Value.{Value}
use Rattle.toml.specs.View.{items_view, members_view, view}
use Rattle.toml.proofs.Views.{Entry, items_view-drop}
use Rattle.std.proofs.lemmas.List.{drop_all}
use Rattle.rasta_pcap.specs.declared.fault.Fault.{Fault}
use Rattle.rasta_udp.specs.declared.channel.Channel.{Channel}
use Rattle.rasta_params.specs.Keys.{are_among, are_few_tables, are_tables, channel_of, channels_in, count_of, document_of, parameters_in, parameters_of, ReadsParameters, with_channel}

-- the keys of a table are those of its members
pub are_among-members_view : (names : List (List ℕ)) (es : List Entry) → list_all (λ k. list_any (bytes_eq (string_bytes k)) names) (keys_of es) ≡ are_among names (members_view es)
are_among-members_view names [] = refl
are_among-members_view names (e ∷ es) = ap (λ (b : Bool). list_any (bytes_eq (string_bytes e.0)) names && b) (are_among-members_view names es)

pub count_of-items_view : (vs : List Value) → count_of (items_view vs) ≡ length vs
count_of-items_view [] = refl
count_of-items_view (v ∷ vs) = let rest = count_of-items_view vs in omega (arith, rest)

pub are_tables-items_view : (vs : List Value) → list_all (λ v. is_some (as_table (view v))) vs ≡ are_tables (items_view vs)
are_tables-items_view [] = refl
are_tables-items_view (v ∷ vs) = ap (λ (b : Bool). is_some (as_table (view v)) && b) (are_tables-items_view vs)

-- channels that were read come before what the rest gives
abbrev pub onto : List Channel → Result (List Channel) Fault → Result (List Channel) Fault
onto front (Ok cs) = Ok (front ++ cs)
onto front (Err e) = Err e

pub onto-nil : (r : Result (List Channel) Fault) → onto [] r ≡ r
onto-nil (Ok cs) = refl
onto-nil (Err e) = refl

pub onto-with_channel : (front : List Channel) (c : Channel) (r : Result (List Channel) Fault) → onto (front ++ c ∷ []) r ≡ onto front (with_channel (Ok c) r)
onto-with_channel front c (Ok cs) = ap Ok (append_assoc front (c ∷ []) cs)
onto-with_channel front c (Err e) = refl

-- a channel with ports, after such channels
pub list_all-has_ports : (front : List Channel) (c : Channel) → list_all has_ports front ≡ true → has_ports c ≡ true
    → list_all has_ports (front ++ c ∷ []) ≡ true
list_all-has_ports front c h k = rw (list_all-append has_ports front (c ∷ []), h, k) refl

-- the tests of a slice of values are those of its items
pub are_few_tables-items_view : (vs : List Value) (tables : Bool) → tables ≡ list_all (λ v. is_some (as_table (view v))) vs
    → (nat_le 1 (length vs) && nat_le (length vs) 4 && tables) ≡ are_few_tables (items_view vs)
are_few_tables-items_view vs tables e =
    ap (λ (b : Bool). nat_le 1 (length vs) && nat_le (length vs) 4 && b) (e ∙ are_tables-items_view vs)
    ∙ ap (λ (n : ℕ). nat_le 1 n && nat_le n 4 && are_tables (items_view vs)) (sym (count_of-items_view vs))

-- one value comes first
pub channels_in-drop : (vs : List Value) (i : ℕ) (d : Value) → i < length vs
    → channels_in (items_view (drop i vs)) ≡ with_channel (channel_of (view (get_or vs i d))) (channels_in (items_view (drop (i + 1) vs)))
unfolding channels_in
channels_in-drop vs i d below = ap channels_in (items_view-drop vs i d below)

-- a channel more was read
pub onto-next : (front : List Channel) (vs : List Value) (i : ℕ) (d : Value) (c : Channel) (all : Result (List Channel) Fault) → i < length vs
    → channel_of (view (get_or vs i d)) ≡ Ok c → onto front (channels_in (items_view (drop i vs))) ≡ all
    → onto (front ++ c ∷ []) (channels_in (items_view (drop (i + 1) vs))) ≡ all
onto-next front vs i d c all below read so_far =
    onto-with_channel front c (channels_in (items_view (drop (i + 1) vs)))
    ∙ ap (onto front) (ap (λ (r : Result Channel Fault). with_channel r (channels_in (items_view (drop (i + 1) vs)))) (sym read) ∙ sym (channels_in-drop vs i d below))
    ∙ so_far

-- a channel was refused
pub onto-refused : (front : List Channel) (vs : List Value) (i : ℕ) (d : Value) (f : Fault) (all : Result (List Channel) Fault) → i < length vs
    → channel_of (view (get_or vs i d)) ≡ Err f → onto front (channels_in (items_view (drop i vs))) ≡ all → all ≡ Err f
onto-refused front vs i d f all below read so_far =
    sym so_far ∙ ap (onto front) (channels_in-drop vs i d below ∙ ap (λ (r : Result Channel Fault). with_channel r (channels_in (items_view (drop (i + 1) vs)))) read)

-- no value is left
pub onto-end : (front : List Channel) (vs : List Value) (i : ℕ) (all : Result (List Channel) Fault) → length vs ≤ i
    → onto front (channels_in (items_view (drop i vs))) ≡ all → all ≡ Ok front
unfolding channels_in
onto-end front vs i all past so_far =
    sym so_far ∙ ap (λ (l : List Value). onto front (channels_in (items_view l))) (drop_all i vs past) ∙ ap Ok (append-nil front)

-- the document of a text that is read
pub document_of-read : (text : List ℕ) (ms : Members) → IsUtf8 text → parse_document text ≡ Some ms → document_of text ≡ Some ms
document_of-read text ms utf8 read =
    ap (λ (b : Bool). cond b (parse_document text) None) (is_utf8-from_IsUtf8 text utf8) ∙ read

not_read : (text : List ℕ) (b : Bool) → is_utf8 text ≡ b → (IsUtf8 text → parse_document text ≡ None) → cond b (parse_document text) None ≡ None
not_read text true e h = h (IsUtf8-from_is_utf8 text e)
not_read text false e h = refl

-- a text that isn't read has no document
pub document_of-refused : (text : List ℕ) → (IsUtf8 text → parse_document text ≡ None) → document_of text ≡ None
document_of-refused text h = not_read text (is_utf8 text) refl h

-- parameters that were read of a text's document, memory aside
pub ReadsParameters-read : (text : List ℕ) (ms : Members) (r : Result Parameters Fault) → document_of text ≡ Some ms
    → (r ≡ Err no_memory) ⊎ (r ≡ parameters_of ms) → ReadsParameters text r
ReadsParameters-read text ms r e h = elim h [ inl m ↦ inl m | inr v ↦ inr (v ∙ sym (ap parameters_in e)) ]

-- a text with no document
pub ReadsParameters-refused : (text : List ℕ) (r : Result Parameters Fault) → document_of text ≡ None → r ≡ Err (fault_at not_toml 0) → ReadsParameters text r
ReadsParameters-refused text r e h = inr (h ∙ sym (ap parameters_in e))
