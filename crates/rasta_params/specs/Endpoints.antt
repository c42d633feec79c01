-- Endpoints as texts: `a.b.c.d:port`, in decimal without leading zeros.
use Rattle.std.specs.Prelude.{◌≡◌, ℕ, ◌<◌, ◌≤◌, List, [], ◌∷◌, ◌++◌, ◌==◌, if◌then◌else◌, Option, Some, None}
use Rattle.std.specs.Fmt.{decimal}
use Rattle.rasta_line.specs.Words.{and_then, cut, decimal_of}
use Rattle.rasta_udp.specs.declared.channel.Endpoint.{Endpoint}

-- the text of an endpoint of these bytes and this port
unfoldable pub endpoint_text : (a b c d port : ℕ) → List ℕ
endpoint_text a b c d port =
    decimal a ++ (46 ∷ (decimal b ++ (46 ∷ (decimal c ++ (46 ∷ (decimal d ++ (58 ∷ decimal port)))))))

-- four texts with points between them
pub record Four : Type 0 where
  pub first : List ℕ
  pub second : List ℕ
  pub third : List ℕ
  pub fourth : List ℕ

unfoldable pub four_of : List ℕ → Option Four
four_of text =
    and_then (cut 46 text) (λ one. and_then (cut 46 one.1) (λ two. and_then (cut 46 two.1)
    (λ three. Some (record { first = one.0; second = two.0; third = three.0; fourth = three.1 }))))

abbrev pub octet_of : List ℕ → Option ℕ
octet_of text = decimal_of 255 text

unfoldable pub address_in : Four → Option (List ℕ)
address_in parts =
    and_then (octet_of parts.first) (λ a. and_then (octet_of parts.second) (λ b. and_then (octet_of parts.third)
    (λ c. and_then (octet_of parts.fourth) (λ d. Some (a ∷ b ∷ c ∷ d ∷ [])))))

-- a port is no 0
unfoldable pub port_of : List ℕ → Option ℕ
port_of text = and_then (decimal_of 65535 text) (λ port. if port == 0 then None else Some port)

-- the endpoint whose text this is
unfoldable pub endpoint_of : List ℕ → Option Endpoint
endpoint_of text =
    and_then (cut 58 text) (λ parts. and_then (and_then (four_of parts.0) address_in)
    (λ address. and_then (port_of parts.1) (λ port. Some (record { address = address; port = port }))))

-- numbers that an address and a port can have, of which the text is this
pub record IsEndpointText (text : List ℕ) (a b c d port : ℕ) : Type 0 where
  pub octets : (a < 256) × (b < 256) × (c < 256) × (d < 256)
  pub from_one : 1 ≤ port
  pub to_most : port ≤ 65535
  pub text_is : text ≡ endpoint_text a b c d port

-- the text is that of the endpoint
pub record HasText (e : Endpoint) (text : List ℕ) : Type 0 where
  pub a : ℕ
  pub b : ℕ
  pub c : ℕ
  pub d : ℕ
  pub address : e.address ≡ a ∷ b ∷ c ∷ d ∷ []
  pub is_text : IsEndpointText text a b c d e.port
